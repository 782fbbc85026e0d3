use Rattle.std.proofs.Common.{subst, sym}
use Rattle.node_tree.specs.Modules.{Mentions}
use Rattle.node_tree.proofs.MentionLemmas.{from_place, none_after, own_module, inner_module}
use Rattle.node_tree.proofs.check_modules.+has_modules.Goals as goal

pub returns-then-not-has_module : goal.returns-then-not-has_module
returns-then-not-has_module g t c =
    let (m, is, absent) = c.if-not-has_module.ensures in
    (m, own_module _ _ _ m c.loop-node-test.true c.node-item.is is, absent)

pub returns-then-not-has_modules : goal.returns-then-not-has_modules
returns-then-not-has_modules g t c =
    let (m, mention, absent) = c.if-not-has_modules.ensures in (
      m,
      inner_module _ _ _ m c.loop-node-test.true c.node-item.is
          (subst (λ ns. Mentions ns m) c.deref.ensures.value mention),
      absent,
    )

pub loop-node-preserved : goal.loop-node-preserved
loop-node-preserved g t c =
    λ rest. c.loop-node.invariant (from_place _ _ _ _ c.loop-node-test.true c.node-item.is c.if-not-has_module.ensures
    (λ m mention. c.if-not-has_modules.ensures m (subst (λ ns. Mentions ns m) (sym c.deref.ensures.value) mention))
    rest)

pub returns : goal.returns
returns g t c = c.loop-node.invariant (λ m mention. absurd (none_after _ _ m c.loop-node-test.false mention))
