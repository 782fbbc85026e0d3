use Rattle.node_tree.proofs.SetLemmas.{in-kept}
use Rattle.node_tree.proofs.cycles.ranking.rank_pending.Goals as goal

pub members-preserved : goal.members-preserved
members-preserved c =
    λ m h. rw c.in_ok-insert.ensures.ok
    (in-kept c.members.ranking.ranks c.in-Some.member.now c.members.ranking.next m (c.members.invariant m h))
