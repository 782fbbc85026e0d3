use Rattle.std.proofs.Common.{◌≡◌, [], ◌∷◌, ap, sym, ◌∙◌, Some, None, arith}
use mathlib.Core.Option.{none}
use Rattle.atomic_table.specs.Table.{rest, step}
use Rattle.turn_pass.specs.Pass.{Knowledge}
use Rattle.turn_pass.specs.Record.{Record}
use Rattle.turn_pass.specs.Rule.Stage.{Took}
use Rattle.turn_pass.specs.Steps.{view_at}
use Rattle.turn_pass.proofs.Steps.{exchanged_slot, exchanges, loads}
use Rattle.turn_pass.proofs.turn.take_from.Goals as goal

pub swap-requires : goal.swap-requires
swap-requires g c = (
  c.requires.table.0,
  omega (arith, c.requires.table.1),
  exchanges g.V.Chronicle.entries _ _ _ _ (step 0 0 0 0 none) c.args.seat.now.me.0.knows c.requires.idle,
)

pub exchange-value-requires : goal.exchange-value-requires
exchange-value-requires g c =
    let took = c.swap.ensures.2.0 c.if-swap-ne0.false in
    let carried : c.swap.new.seat.me.1 ≡ (0, Some took.0) ∷ [] = ap (λ m. m.1) took.1 in (
      c.swap.ensures.0 ∙ c.requires.table.0,
      (Some took.0, carried ∙ ap (λ slots. (0, Some took.0) ∷ rest slots) (sym carried)),
    )

pub load-requires : goal.load-requires
load-requires g c =
    let took = c.swap.ensures.2.0 c.if-swap-ne0.false in
    let k : Knowledge = c.args.seat.now.me.0.knows in
    let r : Record = g.V.Chronicle.entries took.0 in (
      c.exchange-value.ensures.0 ∙ (c.swap.ensures.0 ∙ c.requires.table.0),
      omega (arith, c.requires.table.1),
      loads g.V.Chronicle.entries _ _ _ _ (step 0 0 0 0 none) k r
          (exchanged_slot _ _ (view_at (Took r) k) (Some took.0) None c.exchange-value.ensures.3 took.1),
    )
