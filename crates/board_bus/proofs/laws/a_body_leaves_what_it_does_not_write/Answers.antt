use Rattle.board_bus.proofs.Untouched.{untouched}
use Rattle.board_bus.proofs.laws.a_body_leaves_what_it_does_not_write.Goals as goal

pub returns : goal.returns
returns c = untouched c.requests_are_read.ensures
