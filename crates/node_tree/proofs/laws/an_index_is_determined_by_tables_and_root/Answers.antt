use Rattle.node_tree.proofs.SameLemmas.{one_index}
use Rattle.node_tree.proofs.laws.an_index_is_determined_by_tables_and_root.Goals as goal

pub returns : goal.returns
returns c = one_index
