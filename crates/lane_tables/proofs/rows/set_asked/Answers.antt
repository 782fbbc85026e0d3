use Rattle.lane_tables.specs.Books.{as_asked}
use Rattle.lane_tables.proofs.PlannedBodies.{set_replaced}
use Rattle.lane_tables.proofs.rows.set_asked.Goals as goal

pub returns : goal.returns
returns c = set_replaced c.args.at (as_asked c.args.ask) c.args.bodies.now.items c.index_mut-body.result.now c.requires
    c.index_mut-body.ensures.value
