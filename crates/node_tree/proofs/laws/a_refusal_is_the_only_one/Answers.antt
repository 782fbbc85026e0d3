use Rattle.node_tree.proofs.Uniqueness.{one_refusal}
use Rattle.node_tree.proofs.laws.a_refusal_is_the_only_one.Goals as goal

pub returns : goal.returns
returns c = one_refusal
