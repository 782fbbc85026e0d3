use Rattle.std.proofs.Common.{◌≡◌, ◌+◌, ◌-◌, ◌^◌, ◌<◌, ◌≤◌, length, sym, subst, ap, ◌∙◌, arith}
use Rattle.std.specs.List.{All}
use Rattle.std.proofs.lemmas.Result.{IfOk-weaker}
use Rattle.node_tree.specs.declared.overlapping.settling.Test.TheVariants.{Each, Covers}
use Rattle.node_tree.specs.OverlapSearch.{Settles, SettlesWhere, GoesOn, IsPart, HasNoneToSettle}
use Rattle.node_tree.proofs.EventLemmas.{part-places}
use Rattle.node_tree.proofs.SettlingLemmas.{settles-none, settles-halves, pow_half, some_power}
use Rattle.node_tree.proofs.overlapping.settling.+settle.Goals as goal

pub returns-then-has_none_to_settle : goal.returns-then-has_none_to_settle
returns-then-has_none_to_settle t c =
    settles-none _ _ _ _
    (subst HasNoneToSettle c.deref.ensures.value (c.has_none_to_settle.ensures c.if-has_none_to_settle.true))

pub returns-then-level-eq0 : goal.returns-then-level-eq0
returns-then-level-eq0 t c =
    let one : c.args.first + 1 ≡ c.args.first + 2 ^ c.args.level =
    ap (λ n. c.args.first + 2 ^ n) (sym c.if-level-eq0.true) in
    subst (λ events. Settles events c.args.first
    (c.args.first + 2 ^ c.args.level) c.args.firsts.now c.settle_bits.new.firsts) c.deref-then-level-eq0.ensures.value
    (subst (λ n. Settles c.deref-then-level-eq0.result.now c.args.first n c.args.firsts.now c.settle_bits.new.firsts) one
    (c.settle_bits.ensures c.args.first))

pub settle-requires : goal.settle-requires
settle-requires t c =
    let half = pow_half c.args.level (omega arith) in (
      omega (arith, c.decreases),
      (
        omega arith,
        (
          omega (arith, half, c.requires.range),
          part-places _ c.deref-4.result.now c.in_ok-lower.lower.items (length c.args.firsts.now) _
              (sym (c.settle_where-2.auto.firsts ∙ c.settle_where.auto.firsts)) c.in_ok-lower.ensures
              (subst (All (λ e. e.place < length c.args.firsts.now)) (sym c.deref-4.ensures.value) c.requires.places),
        ),
      ),
    )

pub settle-requires-2 : goal.settle-requires-2
settle-requires-2 t c =
    let half = pow_half c.args.level (omega arith) in (
      omega (arith, c.decreases),
      (
        omega arith,
        (
          omega (arith, half, c.requires.range, c.half_of-half.ensures),
          part-places _ c.deref-5.result.now c.in_ok-upper.upper.items (length c.args.firsts.now) _
              (sym (c.settle.auto.firsts ∙ c.settle_where-2.auto.firsts ∙ c.settle_where.auto.firsts))
              c.in_ok-upper.ensures
              (subst (All (λ e. e.place < length c.args.firsts.now)) (sym c.deref-5.ensures.value) c.requires.places),
        ),
      ),
    )

pub returns : goal.returns
returns t c =
    let level = c.args.level in
    let first = c.args.first in
    let half = c.half_of-half.result in
    let covers = Covers first (first + half + half) in
    let f0 = c.args.firsts.now in
    let f1 = c.settle_where.new.firsts in
    let f2 = c.settle_where-2.new.firsts in
    let f3 = c.settle.new.firsts in
    let f4 = c.settle-2.new.firsts in
    let lo = c.in_ok-lower.lower.items in
    let up = c.in_ok-upper.upper.items in
    let is_half : 2 ^ (level - 1) ≡ half = sym c.half_of-half.ensures in
    let power = pow_half level (omega arith) in
    let some : 1 ≤ half = let more = some_power (level - 1) in omega (arith, more, is_half) in
    let whole : first + half + half ≡ first + 2 ^ level = omega (arith, power, is_half) in
    let one = subst (λ events. SettlesWhere events covers Each f0 f1) c.deref-2.ensures.value c.settle_where.ensures in
    let other =
    subst (λ events. SettlesWhere events Each covers f1 f2) c.deref-3.ensures.value c.settle_where-2.ensures in
    let part_lo =
    subst (λ events. IsPart (GoesOn covers first (first + half)) events lo) c.deref-4.ensures.value
    c.in_ok-lower.ensures in
    let part_up =
    subst (λ events. IsPart (GoesOn covers (first + half) (first + half + half)) events up) c.deref-5.ensures.value
    c.in_ok-upper.ensures in
    let settles_lo = subst (λ h. Settles lo first (first + h) f2 f3) is_half c.in_ok-settle.ensures in
    IfOk-weaker c.settle-2.result _ _
    (λ _ settles_up.
    settles-halves c.args.events.items lo up first half
    (first + 2 ^ level) f0 f1 f2 f3 f4 some whole one other part_lo part_up settles_lo
    (subst (λ h. Settles up (first + half) (first + half + h) f3 f4) is_half settles_up))
    c.settle-2.ensures
