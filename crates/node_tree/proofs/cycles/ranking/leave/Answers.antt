use Rattle.node_tree.proofs.SetLemmas.{in-kept}
use Rattle.node_tree.proofs.cycles.ranking.leave.Goals as goal

pub returns : goal.returns
returns c = λ m h. rw c.in_ok-insert.ensures.ok (in-kept _ _ _ m h)
