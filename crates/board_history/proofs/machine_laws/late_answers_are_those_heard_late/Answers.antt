use Rattle.std.proofs.Common.{min}
use Rattle.board_history.proofs.machine_laws.late_answers_are_those_heard_late.Goals as goal

pub returns : goal.returns
returns c = λ settings payload run link is place words.
    c.each_late_answer_is_that_of_its_own_body.ensures is.status.next (min settings.window is.status.buffers)
    settings.rounds is.events is.traffic is.end is.end.fates place words is.fresh is.machine
