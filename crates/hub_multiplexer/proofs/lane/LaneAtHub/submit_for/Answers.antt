use Rattle.hub_multiplexer.proofs.Submits.{all_asked_there}
use Rattle.hub_multiplexer.proofs.lane.LaneAtHub.submit_for.Goals as goal

pub submit_on-requires-clause-all_asked : goal.submit_on-requires-clause-all_asked
submit_on-requires-clause-all_asked g c =
    let (k, told, number, all) = c.requires.all_asked in
    all_asked_there c.args.client k c.args.self.now.items number (c.tells_its_own.ensures.own k told) all
