use Rattle.std.proofs.Common.{arith}
use Rattle.world_model.specs.Hub.{abandoned_place}
use Rattle.world_model.proofs.Places.{rising_end}
use Rattle.reliable_engine.proofs.InSlots.{change_all, change_next, change_none}
use Rattle.reliable_engine.proofs.slots.abandon_slots.Goals as goal

pub loop-place-init : goal.loop-place-init
loop-place-init c = change_none abandoned_place c.args.low c.args.slots.now

pub loop-place-preserved : goal.loop-place-preserved
loop-place-preserved c =
    change_next abandoned_place c.args.low c.loop-place.place c.args.slots.now c.loop-place.slots
    c.abandon_slot.new.slots (omega arith) (omega (arith, c.requires.ends.near)) c.loop-place.invariant
    c.abandon_slot.ensures

pub returns : goal.returns
returns c =
    let from = rising_end c.args.low c.args.end _ c.requires.ends.rising in
    change_all abandoned_place c.args.low c.args.end c.loop-place.place c.args.slots.now c.loop-place.slots
    c.requires.ends (omega arith) c.loop-place.invariant
