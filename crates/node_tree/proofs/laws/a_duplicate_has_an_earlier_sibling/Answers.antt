use Rattle.node_tree.proofs.SiblingLemmas.{repeated-root}
use Rattle.node_tree.proofs.laws.a_duplicate_has_an_earlier_sibling.Goals as goal

pub returns : goal.returns
returns c = repeated-root
