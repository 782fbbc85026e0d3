use Rattle.std.proofs.Common.{ap, ◌∙◌, refl}
use Rattle.world_model.specs.Hub.{abandoned_place, places}
use Rattle.world_model.proofs.Hubs.{places_map}
use Rattle.reliable_engine.specs.declared.slots.TheConstants.{SLOTS}
use Rattle.reliable_engine.specs.Slots.{open_from}
use Rattle.reliable_engine.proofs.InSlots.{slotted_same}
use Rattle.reliable_engine.proofs.open_places.OpenPlaces.abandon_all.Goals as goal

pub invariant_of-self : goal.invariant_of-self
invariant_of-self c =
    let i = c.self.inside in
    let os = open_from i.slots i.low SLOTS in
    slotted_same i.low i.end os (open_from c.abandon_slots.new.slots i.low SLOTS) c.self.invariant
    (ap places c.abandon_slots.ensures ∙ places_map abandoned_place os (λ _. refl))
