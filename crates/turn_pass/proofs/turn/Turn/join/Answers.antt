use Rattle.std.proofs.Common.{ap, sym, ◌∙◌, arith}
use Rattle.turn_pass.proofs.Passes.{idle_pass}
use Rattle.turn_pass.proofs.Steps.{joins}
use Rattle.turn_pass.proofs.turn.Turn.join.Goals as goal

pub join_seat-requires : goal.join_seat-requires
join_seat-requires g c =
    let views = ap (λ b. b.views) (sym c.replace.ensures.value) ∙ c.into_seat-seat.ensures.2 in
    let idle =
    idle_pass c.pass.inside.badge.views c.into_seat-seat.result.me.0 views c.pass.invariant.view_is
    (ap (λ p. p.holds) c.pass.view_is ∙ c.requires.idle) in
    let other_idle =
    idle_pass c.other.inside.badge.views c.into_seat.result.me.0 c.into_seat.ensures.2 c.other.invariant.view_is
    (ap (λ p. p.holds) c.other.view_is ∙ c.requires.other_idle) in (
      c.into_seat-seat.ensures.0
          ∙ (ap (λ b. b.table_id) c.replace.ensures.value
          ∙ (ap (λ p. p.turn) c.pass.view_is ∙ (c.requires.turn ∙ sym c.self.view_is))),
      c.into_seat.ensures.0 ∙ (ap (λ p. p.turn) c.other.view_is ∙ (c.requires.other_turn ∙ sym c.self.view_is)),
      c.into_seat.ensures.3,
      omega (arith, c.self.invariant.0),
      joins g.V.Chronicle.entries _ _ _ _ _ idle other_idle,
    )
