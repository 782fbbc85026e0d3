use Rattle.std.proofs.Common.{refl}
use Rattle.board_bus.proofs.Bodies.{run_body-bad_header}
use Rattle.board_bus.proofs.laws.a_bad_header_ends_a_body.Goals as goal

pub returns-clause-bad_header : goal.returns-clause-bad_header
returns-clause-bad_header c = run_body-bad_header c.requests_are_read.ensures

pub returns-clause-empty : goal.returns-clause-empty
returns-clause-empty c = λ cells. refl
