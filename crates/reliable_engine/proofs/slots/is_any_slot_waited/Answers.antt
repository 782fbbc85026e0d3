use Rattle.std.proofs.Common.{◌+◌, ◌-◌, Bool, ◌||◌, None, Some, ap, sym, ◌∙◌, arith}
use Rattle.world_model.specs.Hub.{some_waited}
use Rattle.reliable_engine.specs.declared.slots.TheConstants.{SLOTS}
use Rattle.reliable_engine.specs.Slots.{open_from}
use Rattle.reliable_engine.proofs.InSlots.{none_behind, rest_is}
use Rattle.reliable_engine.proofs.slots.is_any_slot_waited.Goals as goal

pub loop-place-preserved-in_default : goal.loop-place-preserved-in_default
loop-place-preserved-in_default c =
    let none = sym c.read_slot.ensures ∙ c.in_default.is in
    ap some_waited (sym (rest_is c.args.slots.now c.loop-place.place (c.args.low + SLOTS) None
    (omega (arith, c.requires.ends.near)) none))
    ∙ c.loop-place.invariant

pub returns-then-open : goal.returns-then-open
returns-then-open c =
    let there = sym c.read_slot.ensures ∙ c.in-Some.is in
    let past = c.args.low + SLOTS in
    let place = c.loop-place.place in
    let rest = open_from c.args.slots.now (place + 1) (past - (place + 1)) in
    let one = rest_is c.args.slots.now place past (Some c.in-Some.open)
    (omega (arith, c.requires.ends.near)) there in
    sym (ap (λ (b : Bool). b || some_waited rest) c.if-open.true)
    ∙ (ap some_waited (sym one) ∙ c.loop-place.invariant)

pub loop-place-preserved : goal.loop-place-preserved
loop-place-preserved c =
    let there = sym c.read_slot.ensures ∙ c.in-Some.is in
    let past = c.args.low + SLOTS in
    let place = c.loop-place.place in
    let rest = open_from c.args.slots.now (place + 1) (past - (place + 1)) in
    let one = rest_is c.args.slots.now place past (Some c.in-Some.open)
    (omega (arith, c.requires.ends.near)) there in
    sym (ap (λ (b : Bool). b || some_waited rest) c.if-open.false)
    ∙ (ap some_waited (sym one) ∙ c.loop-place.invariant)

pub returns : goal.returns
returns c =
    ap some_waited
    (sym (none_behind c.args.slots.now c.args.low c.args.end c.loop-place.place c.requires.ends (omega arith)))
    ∙ c.loop-place.invariant
