use Rattle.std.proofs.Common.{sym, subst}
use Rattle.node_tree.specs.Modules.{Mentions}
use Rattle.node_tree.specs.CycleSearch.{IsRanked}
use Rattle.node_tree.proofs.cycles.rising.is_below_modules.Goals as goal

pub returns : goal.returns
returns c = λ all. (
  c.in-Some.rank.now,
  sym c.in-Some.ensures,
  λ m mention. subst (λ least. IsRanked c.args.ranks.now least m) c.in-Some-checked_add.ensures.1
      (c.all_ranked.ensures all m (subst (λ ns. Mentions ns m) (sym c.nodes_of.ensures) mention)),
)
