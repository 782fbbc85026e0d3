use Rattle.capture_commands.specs.Texts.{DeservesAsCapture, DeservesAsDescription, IsDescribed, IsRefused, IsUndescribed}
use Rattle.capture_commands.proofs.OneAnswer.{capture_unrefused, described_once, description_unrefused, one_as_capture}
use Rattle.capture_commands.proofs.OneAnswer.{one_as_description, one_line, one_owed, undescribed_once}
use Rattle.capture_commands.proofs.laws.an_input_has_one_answer.Goals as goal

pub returns-clause-described : goal.returns-clause-described
returns-clause-described c = λ bytes given others s t a b is of.
    let faults = c.a_text_has_one_first_fault.ensures in
    one_owed IsDescribed (IsRefused DeservesAsCapture)
    (described_once c.a_text_is_of_one_capture.ensures c.a_capture_has_one_description.ensures.one)
    (one_line DeservesAsCapture (one_as_capture faults.one))
    (λ bytes line s a is. capture_unrefused faults.none bytes line is.capture is.read) bytes s t a b is of

pub returns-clause-undescribed : goal.returns-clause-undescribed
returns-clause-undescribed c = λ bytes given others s t a b is of.
    one_owed IsUndescribed (IsRefused DeservesAsDescription)
    (undescribed_once c.a_capture_has_one_description.ensures.shared)
    (one_line DeservesAsDescription one_as_description)
    (λ bytes line s a is. description_unrefused bytes line is.capture is.read) bytes s t a b is of
