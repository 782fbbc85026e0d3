use Rattle.board_bus.proofs.ReplyLength.{run_body-length}
use Rattle.board_bus.proofs.laws.a_reply_has_room.Goals as goal

pub returns : goal.returns
returns c = run_body-length
