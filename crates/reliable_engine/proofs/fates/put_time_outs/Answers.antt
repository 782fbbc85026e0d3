use Rattle.std.proofs.Common.{◌+◌, ◌-◌, List, None, Some, ◌∷◌, length, ap, sym, ◌∙◌, subst, arith}
use Rattle.world_model.specs.declared.offered.OpenPlace.{OpenPlace}
use Rattle.world_model.specs.Hub.{places, time_out}
use Rattle.world_model.proofs.Places.{rising_end, rising_from}
use Rattle.reliable_engine.specs.declared.slots.TheConstants.{SLOTS}
use Rattle.reliable_engine.specs.Slots.{AreUpTo, open_from}
use Rattle.reliable_engine.specs.Steps.{waits}
use Rattle.reliable_engine.proofs.InSlots.{none_behind, rest_is}
use Rattle.reliable_engine.proofs.fates.put_time_outs.Goals as goal

pub loop-place-preserved-in_default : goal.loop-place-preserved-in_default
loop-place-preserved-in_default c =
    let is = c.loop-place.invariant in
    let same = rest_is c.args.slots.now c.loop-place.place (c.args.low + SLOTS) None
    (omega (arith, c.requires.ends.near)) (sym c.read_slot.ensures ∙ c.in_default.is) in
    record {
      items = ap (λ (os : List OpenPlace). time_out c.args.rounds c.args.sent.now os c.loop-place.fates.items)
          (sym same) ∙ is.items;
      len = omega (arith, is.len, ap waits same);
      capacity = is.capacity;
      places = subst (AreUpTo (length c.args.sent.now)) same is.places;
    }

pub put_time_out-requires : goal.put_time_out-requires
put_time_out-requires c =
    let is = c.loop-place.invariant in
    let o = c.in-Some.open in
    let past = c.args.low + SLOTS in
    let rest = open_from c.args.slots.now (c.loop-place.place + 1) (past - (c.loop-place.place + 1)) in
    let same = rest_is c.args.slots.now c.loop-place.place past (Some o) (omega (arith, c.requires.ends.near))
    (sym c.read_slot.ensures ∙ c.in-Some.is) in
    let at : AreUpTo (length c.args.sent.now) (o ∷ rest) = subst (AreUpTo (length c.args.sent.now)) same is.places in
    let end = rising_end (o.place + 1) (length c.args.sent.now + 1) (places rest) at.1 in
    record {
      room = omega (arith, is.len, is.capacity, ap waits same, c.requires.room);
      from_one = at.0;
      sent = omega arith;
    }

pub loop-place-preserved : goal.loop-place-preserved
loop-place-preserved c =
    let is = c.loop-place.invariant in
    let o = c.in-Some.open in
    let sent = c.args.sent.now in
    let past = c.args.low + SLOTS in
    let rest = open_from c.args.slots.now (c.loop-place.place + 1) (past - (c.loop-place.place + 1)) in
    let same = rest_is c.args.slots.now c.loop-place.place past (Some o) (omega (arith, c.requires.ends.near))
    (sym c.read_slot.ensures ∙ c.in-Some.is) in
    let at : AreUpTo (length sent) (o ∷ rest) = subst (AreUpTo (length sent)) same is.places in
    record {
      items = ap (time_out c.args.rounds sent rest) c.put_time_out.ensures.items
          ∙ (ap (λ (os : List OpenPlace). time_out c.args.rounds sent os c.loop-place.fates.items) (sym same)
          ∙ is.items);
      len = omega (arith, is.len, c.put_time_out.ensures.len, ap waits same);
      capacity = omega (arith, is.capacity, c.put_time_out.ensures.capacity);
      places = rising_from 1 (o.place + 1) (length sent + 1) (places rest) (omega arith) at.1;
    }

pub returns : goal.returns
returns c =
    let is = c.loop-place.invariant in
    let none = none_behind c.args.slots.now c.args.low c.args.end c.loop-place.place c.requires.ends (omega arith) in
    record {
      items = ap (λ (os : List OpenPlace). time_out c.args.rounds c.args.sent.now os c.loop-place.fates.items)
          (sym none) ∙ is.items;
      len = omega (arith, is.len, ap waits none);
      capacity = is.capacity;
    }
