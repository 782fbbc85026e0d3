use Rattle.std.proofs.Common.{◌≡◌, [], ◌∷◌, sym, subst}
use Rattle.atomic_table.specs.Table.{opening}
use Rattle.turn_pass.specs.Pass.{first_knowledge}
use Rattle.turn_pass.specs.Rule.{Turning}
use Rattle.turn_pass.specs.Rule.Stage.{Idle}
use Rattle.turn_pass.specs.Steps.{view_at}
use Rattle.turn_pass.proofs.Steps.{opens}
use Rattle.turn_pass.proofs.turn.Turn.new.Goals as goal

pub new-requires : goal.new-requires
new-requires g c =
    let entries = g.V.Chronicle.entries in
    let told : c.args.value ≡ c.of-about.result.value = sym c.of-about.ensures in
    subst (λ y. Turning entries (entries y)
    (opening (0 ∷ c.count-count.result ∷ []) c.in_ok-slots.slots.items
    (view_at Idle (first_knowledge (entries y))))) told
    (subst (λ l. Turning entries (entries c.args.value)
    (opening (0 ∷ c.count-count.result ∷ []) l (view_at Idle (first_knowledge (entries c.args.value)))))
    (sym c.in_ok-slots.ensures.slot)
    (opens entries c.args.value c.count-count.result c.count-count.ensures))
