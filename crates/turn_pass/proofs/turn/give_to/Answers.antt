use Rattle.std.proofs.Common.{◌∙◌, Some, None, arith}
use mathlib.Core.Option.{none}
use Rattle.atomic_table.specs.Table.{step}
use Rattle.turn_pass.specs.Pass.{Knowledge}
use Rattle.turn_pass.specs.Rule.Stage.{Stores}
use Rattle.turn_pass.specs.Steps.{view_at}
use Rattle.turn_pass.proofs.Steps.{exchanged_slot, gives_back, stored_number, stores}
use Rattle.turn_pass.proofs.turn.give_to.Goals as goal

pub store-requires : goal.store-requires
store-requires g c = (
  c.requires.table.0,
  omega (arith, c.requires.table.1),
  stores g.V.Chronicle.entries _ _ _ _ (step 0 0 0 0 none) c.args.seat.now.me.0.knows _ c.requires.holds,
)

pub swap-requires : goal.swap-requires
swap-requires g c =
    let k : Knowledge = c.args.seat.now.me.0.knows in
    let n = c.count-count.result in
    let stored = stored_number _ _ k k.seen n c.store.ensures.2 c.requires.holds in (
      c.exchange.ensures.0 ∙ (c.store.ensures.0 ∙ c.requires.table.0),
      omega (arith, c.requires.table.1),
      gives_back g.V.Chronicle.entries _ _ _ _ (step 0 0 0 0 none) k n c.args.value
          (exchanged_slot _ _ (view_at (Stores k.seen n) k) None (Some c.args.value) c.exchange.ensures.3 stored)
          c.requires.grows c.count-count.ensures,
    )
