use Rattle.node_tree.proofs.SetLemmas.{in-kept, in-added}
use Rattle.node_tree.proofs.cycles.ranking.enter.Goals as goal

pub returns : goal.returns
returns c =
    let ranks = c.args.ranking.now.ranks in
    rw c.in_ok-insert.ensures.ok (
      λ m h. in-kept ranks c.args.name.now c.args.ranking.now.entered m h,
      in-added ranks c.args.name.now c.args.ranking.now.entered,
    )
