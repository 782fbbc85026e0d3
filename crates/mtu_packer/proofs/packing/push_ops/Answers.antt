use Rattle.std.proofs.Common.{◌≡◌, ◌+◌, ◌++◌, [], ◌∷◌, ◌∙◌, ap, subst, sym, arith, rules}
use Rattle.mtu_packer.specs.Cutting.{piece_count}
use Rattle.mtu_packer.proofs.Whole.{Underway, underway_start, underway_room, underway_next, underway_over}
use Rattle.mtu_packer.proofs.packing.push_ops.Goals as goal

pub loop-op-init : goal.loop-op-init
loop-op-init c =
    let payload = c.args.packer.now.payload in
    let none : c.reserve.new.self.items ≡ [] = search rules in
    subst (λ spans. Underway c.args.ops.now payload 0 c.args.packer.now spans 0) (sym none)
    (underway_start _ _ _ c.requires.fresh c.requires.payload_low c.requires.payload_high)

pub push_op-requires-clause-few : goal.push_op-requires-clause-few
push_op-requires-clause-few c =
    let is = c.loop-op.invariant in
    let room = underway_room _ _ _ _ _ _ c.op-item.result is c.loop-op-test.true c.op-item.is in
    omega (arith, room, is.places, ap (λ n. piece_count n c.op-item.result) is.payload_same, c.requires.few)

pub loop-op-preserved : goal.loop-op-preserved
loop-op-preserved c =
    let payload = c.args.packer.now.payload in
    let pushed = c.in_ok-end.ensures in
    let start = c.loop-op.start in
    let after = c.push_op.new.self in
    let next = underway_next _ _ _ _ _ _ c.op-item.result after c.loop-op.invariant c.loop-op-test.true c.op-item.is
    pushed.taken pushed.within in
    let end_is = pushed.places ∙ next.places in
    subst (λ spans. Underway c.args.ops.now payload (c.loop-op.op-index + 1) after spans c.in_ok-end.end)
    (sym c.in_ok-push.ensures.ok)
    (subst (λ n. Underway c.args.ops.now payload (c.loop-op.op-index + 1) after (c.loop-op.spans.items
    ++ record { start = start; end = n } ∷ []) n) (sym end_is) next)

pub returns-clause-packed : goal.returns-clause-packed
returns-clause-packed c = underway_over _ _ _ _ _ _ c.loop-op.invariant c.loop-op-test.false
