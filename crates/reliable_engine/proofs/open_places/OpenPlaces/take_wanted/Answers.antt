use Rattle.std.proofs.Common.{ap, ◌∙◌}
use Rattle.world_model.specs.Hub.{places}
use Rattle.reliable_engine.specs.declared.slots.TheConstants.{SLOTS}
use Rattle.reliable_engine.specs.Slots.{open_from}
use Rattle.reliable_engine.proofs.InSlots.{slotted_same}
use Rattle.reliable_engine.proofs.Wanting.{wanted_places}
use Rattle.reliable_engine.proofs.open_places.OpenPlaces.take_wanted.Goals as goal

pub invariant_of-self : goal.invariant_of-self
invariant_of-self c =
    let i = c.self.inside in
    let os = open_from i.slots i.low SLOTS in
    slotted_same i.low i.end os (open_from c.take_wanted_slot.new.slots i.low SLOTS) c.self.invariant
    (ap places c.take_wanted_slot.ensures.after ∙ wanted_places c.args.first os)
