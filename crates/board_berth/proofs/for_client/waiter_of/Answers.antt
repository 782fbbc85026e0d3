use Rattle.board_berth.proofs.Beginning.{same_record}
use Rattle.board_berth.proofs.for_client.waiter_of.Goals as goal

pub returns : goal.returns
returns g c = same_record g.L.Link c.args.berth.now c.waiter.new.self c.waiter.ensures
