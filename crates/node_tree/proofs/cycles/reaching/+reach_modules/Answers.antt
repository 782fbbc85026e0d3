use Rattle.std.proofs.Common.{inl, inr, subst, sym}
use Rattle.node_tree.specs.Modules.{Mentions}
use Rattle.node_tree.proofs.MentionLemmas.{from_place, none_after, own_module, inner_module}
use Rattle.node_tree.proofs.CycleLemmas.{either}
use Rattle.node_tree.proofs.ReachLemmas.{opens-then, opens-weaker}
use Rattle.node_tree.proofs.cycles.reaching.+reach_modules.Goals as goal

pub loop-node-preserved : goal.loop-node-preserved
loop-node-preserved t c =
    let own = c.in_ok-reach_module.ensures in
    let inner = c.in_ok-reach_modules.ensures in
    let before = c.loop-node.invariant in
    record {
      opens = opens-then _ _ _ _ _ _ (Mentions c.args.nodes.now)
          (opens-then _ _ _ _ _ _ (Mentions c.args.nodes.now) before.opens
          (opens-weaker _ _ _ _ _ _ (λ m is. own_module _ _ _ m c.loop-node-test.true c.node-item.is is) own.opens))
          (opens-weaker _ _ _ _ _ _
          (λ m mention. inner_module _ _ _ m c.loop-node-test.true c.node-item.is
          (subst (λ ns. Mentions ns m) c.deref.ensures.value mention)) inner.opens);
      added = λ m mention. either (before.added m mention) (λ h. inl (inner.opens.kept m (own.opens.kept m h)))
          (from_place _ _ _ _ c.loop-node-test.true c.node-item.is (λ k is. inl (inner.opens.kept k (own.added k is)))
          (λ k h. inl (inner.added k (subst (λ ns. Mentions ns k) (sym c.deref.ensures.value) h)))
          (λ k h. inr h) m);
    }

pub returns : goal.returns
returns t c = record {
  opens = c.loop-node.invariant.opens;
  added =
      λ m mention. either (c.loop-node.invariant.added m mention) (λ h. h)
      (λ h. absurd (none_after _ _ m c.loop-node-test.false h));
}
