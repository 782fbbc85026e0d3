use Rattle.std.proofs.Common.{◌+◌, sym, subst}
use Rattle.reliable_engine.specs.Slots.{IsSlotted}
use Rattle.reliable_engine.proofs.InSlots.{opened_after}
use Rattle.reliable_engine.proofs.open_places.OpenPlaces.open.Goals as goal

pub invariant_of-self : goal.invariant_of-self
invariant_of-self c =
    let i = c.self.inside in
    let low = c.low-self-inside.result in
    let after = opened_after i.slots c.put_slot.new.slots i.low i.end low c.args.place c.args.self.now c.self.view_is
    c.self.invariant c.low-self-inside.ensures c.requires.from_one c.requires.up_to_end c.requires.above
    c.requires.near c.put_slot.ensures in
    subst (IsSlotted low (c.args.place + 1)) (sym after.0) after.1

pub returns : goal.returns
returns c =
    let i = c.self.inside in
    (opened_after i.slots c.put_slot.new.slots i.low i.end c.low-self-inside.result c.args.place c.args.self.now
    c.self.view_is c.self.invariant c.low-self-inside.ensures c.requires.from_one c.requires.up_to_end
    c.requires.above c.requires.near c.put_slot.ensures).0
