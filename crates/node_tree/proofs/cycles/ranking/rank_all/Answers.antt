use Rattle.std.proofs.Common.{arith}
use Rattle.std.specs.FinMap.{entries}
use Rattle.node_tree.proofs.CycleLemmas.{missing-kept, missing-less}
use Rattle.node_tree.proofs.cycles.ranking.rank_all.Goals as goal

pub entering-smaller : goal.entering-smaller
entering-smaller c =
    let ranks = c.next_table.new.ranking.ranks in
    let found = rw c.in-Some.is at c.in_ok-name.ensures.found in
    let as_many = missing-kept c.entering.ranking.ranks ranks (entries c.args.tables.now) c.in_ok-name.ensures.kept in
    let fewer =
    missing-less c.args.tables.now ranks c.enter.new.ranking.ranks c.in-Some.name.now found.1.0
    c.in_ok-enter.ensures.0 found.0 c.in_ok-enter.ensures.1 found.1.1 in
    omega (arith, as_many, fewer)
