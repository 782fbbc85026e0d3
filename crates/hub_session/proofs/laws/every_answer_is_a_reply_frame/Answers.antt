use Rattle.std.specs.List.{slice_get}
use Rattle.hub_session.specs.Answers.{control_packet}
use Rattle.hub_session.proofs.Replies.{is_reply}
use Rattle.hub_session.proofs.laws.every_answer_is_a_reply_frame.Goals as goal

pub returns : goal.returns
returns c = λ boards e frame is. is_reply e.frame.board (control_packet e.frame.packet) (slice_get boards e.frame.board)
    e.got frame.board is
