use Rattle.board_bus.proofs.Bodies.{run_body-done, run_body-failed}
use Rattle.board_bus.proofs.laws.a_body_is_executed_in_order.Goals as goal

pub returns-clause-success : goal.returns-clause-success
returns-clause-success c = run_body-done c.requests_are_read.ensures

pub returns-clause-failed : goal.returns-clause-failed
returns-clause-failed c = run_body-failed c.requests_are_read.ensures
