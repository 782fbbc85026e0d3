use Rattle.lossy_network.proofs.Copies.{held_count}
use Rattle.lossy_network.proofs.laws.held_are_those_lost_delayed_or_dropped.Goals as goal

pub returns : goal.returns
returns c = held_count
