use Rattle.std.proofs.Common.{◌≡◌, Some, None, sym, ◌∙◌}
use mathlib.Core.Option.{some-injective}
use Rattle.turn_pass.proofs.Steps.{empty_slot}
use Rattle.turn_pass.proofs.turn.close_empty.Goals as goal

pub unreachable-requires : goal.unreachable-requires
unreachable-requires g c =
    let final = c.close_with-closed.ensures.values.2 in
    let at_home = empty_slot g.V.Chronicle.entries _ final.0 _ _ _ c.requires.holds final.1.0 final.1.1 in
    let there = final.4 0 None at_home in
    let is : None ≡ c.take.result = some-injective _ _ (sym there ∙ c.take.ensures.value) in
    let bad : None ≡ Some c.in-Some.field-0 = is ∙ c.in-Some.is in
    cc
