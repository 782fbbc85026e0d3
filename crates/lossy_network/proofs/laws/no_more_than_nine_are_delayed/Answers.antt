use Rattle.lossy_network.proofs.Delays.{few_delayed}
use Rattle.lossy_network.proofs.laws.no_more_than_nine_are_delayed.Goals as goal

pub returns : goal.returns
returns c = few_delayed
