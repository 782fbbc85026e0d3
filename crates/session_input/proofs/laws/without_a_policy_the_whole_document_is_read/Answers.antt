use Rattle.session_input.proofs.Alone.{beside, whole}
use Rattle.session_input.proofs.laws.without_a_policy_the_whole_document_is_read.Goals as goal

pub returns : goal.returns
returns c = λ bytes session. (whole bytes session, beside bytes session)
