use Rattle.node_tree.proofs.FaultlessLemmas.{siblings_differ}
use Rattle.node_tree.proofs.laws.siblings_have_ids_of_their_own.Goals as goal

pub returns : goal.returns
returns c = siblings_differ
