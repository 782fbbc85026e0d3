use Rattle.std.proofs.Common.{ap, sym, ◌∙◌, arith}
use Rattle.turn_pass.specs.PassInside.{view_of}
use Rattle.turn_pass.proofs.Passes.{idle_pass}
use Rattle.turn_pass.proofs.Steps.{splits}
use Rattle.turn_pass.proofs.turn.Turn.split.Goals as goal

pub split_seat-other-requires : goal.split_seat-other-requires
split_seat-other-requires g c =
    let views = ap (λ b. b.views) (sym c.replace.ensures.value) ∙ c.into_seat-seat.ensures.2 in
    let idle =
    idle_pass c.pass.inside.badge.views c.into_seat-seat.result.me.0 views c.pass.invariant.view_is
    (ap (λ p. p.holds) c.pass.view_is ∙ c.requires.idle) in
    let first =
    ap (λ v. v.knows.number) (sym (ap view_of views))
    ∙ (ap (λ p. p.knows.number) c.pass.view_is ∙ c.requires.first) in (
      c.into_seat-seat.ensures.0
          ∙ (ap (λ b. b.table_id) c.replace.ensures.value
          ∙ (ap (λ p. p.turn) c.pass.view_is ∙ (c.requires.turn ∙ sym c.self.view_is))),
      omega (arith, c.self.invariant.0),
      splits g.V.Chronicle.entries _ _ _ idle first,
    )
