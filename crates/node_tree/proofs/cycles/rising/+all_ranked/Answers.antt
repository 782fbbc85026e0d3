use Rattle.std.proofs.Common.{subst, sym, refl, arith}
use Rattle.std.proofs.lemmas.Grind.{common_steps}
use Rattle.node_tree.specs.Modules.{Mentions}
use Rattle.node_tree.proofs.MentionLemmas.{from_place, none_after}
use Rattle.node_tree.specs.CycleSearch.{IsRanked}
use Rattle.node_tree.proofs.cycles.rising.+all_ranked.Goals as goal

pub loop-node-preserved : goal.loop-node-preserved
loop-node-preserved t c =
    λ rest. c.loop-node.invariant
    (from_place (IsRanked c.args.ranks.now c.args.least) _ _ _ c.loop-node-test.true c.node-item.is
    (c.if-not-is_ranked.ensures refl)
    (λ m mention. c.if-not-all_ranked.ensures refl m (subst (λ ns. Mentions ns m) (sym c.deref.ensures.value) mention))
    rest)

pub returns : goal.returns
returns t c = λ _. c.loop-node.invariant (λ m mention. absurd (none_after _ _ m c.loop-node-test.false mention))

pub returns-then-not-is_ranked : goal.returns-then-not-is_ranked
returns-then-not-is_ranked t c = grind (arith, common_steps)

pub returns-then-not-all_ranked : goal.returns-then-not-all_ranked
returns-then-not-all_ranked t c = grind (arith, common_steps)
