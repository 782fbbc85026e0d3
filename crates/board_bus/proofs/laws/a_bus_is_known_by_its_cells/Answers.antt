use Rattle.board_bus.proofs.InOrder.{opening-in_order, run_body-in_order, same_bus}
use Rattle.board_bus.proofs.laws.a_bus_is_known_by_its_cells.Goals as goal

pub returns-clause-opening : goal.returns-clause-opening
returns-clause-opening c = opening-in_order

pub returns-clause-after : goal.returns-clause-after
returns-clause-after c = run_body-in_order

pub returns-clause-same : goal.returns-clause-same
returns-clause-same c = same_bus
