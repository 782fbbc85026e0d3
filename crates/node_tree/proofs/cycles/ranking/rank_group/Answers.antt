use Rattle.node_tree.proofs.SetLemmas.{in-kept}
use Rattle.node_tree.proofs.cycles.ranking.rank_group.Goals as goal

pub returns : goal.returns
returns c = λ m h. rw c.in_ok-insert.ensures.ok (in-kept _ _ _ m (c.in_ok-rank_pending.ensures m h))
