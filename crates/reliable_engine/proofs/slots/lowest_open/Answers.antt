use Rattle.std.proofs.Common.{◌+◌, ℕ, None, List, ap, sym, ◌∙◌, arith}
use Rattle.world_model.specs.declared.offered.OpenPlace.{OpenPlace}
use Rattle.world_model.specs.Hub.{least, places}
use Rattle.reliable_engine.specs.declared.slots.TheConstants.{SLOTS}
use Rattle.reliable_engine.specs.Slots.{open_from}
use Rattle.reliable_engine.proofs.InSlots.{closed_after, low_there, none_behind, past_closed, place_at, rest_is}
use Rattle.reliable_engine.proofs.slots.lowest_open.Goals as goal

pub returns-in-Some-clause-lowest : goal.returns-in-Some-clause-lowest
returns-in-Some-clause-lowest c =
    let slots = c.args.slots.now in
    low_there slots c.loop-place.place c.args.end c.in-Some.open (sym c.read_slot.ensures ∙ c.in-Some.is)
    ∙ ap (λ (os : List OpenPlace). least (places os) c.args.end) c.loop-place.invariant.0

pub returns-in-Some-clause-same : goal.returns-in-Some-clause-same
returns-in-Some-clause-same c =
    let slots = c.args.slots.now in
    ap (λ (n : ℕ). open_from slots n SLOTS)
    (place_at slots c.loop-place.place c.in-Some.open (sym c.read_slot.ensures ∙ c.in-Some.is))
    ∙ c.loop-place.invariant.0

pub loop-place-preserved : goal.loop-place-preserved
loop-place-preserved c =
    let slots = c.args.slots.now in
    let place = c.loop-place.place in
    let none = sym c.read_slot.ensures ∙ c.in_default.is in (
      past_closed slots place none ∙ c.loop-place.invariant.0,
      sym (rest_is slots place (c.args.low + SLOTS) None (omega (arith, c.requires.ends.near)) none)
          ∙ c.loop-place.invariant.1,
    )

pub returns-clause-lowest : goal.returns-clause-lowest
returns-clause-lowest c =
    ap (λ (os : List OpenPlace). least (places os) c.args.end)
    (sym (none_behind c.args.slots.now c.args.low c.args.end c.loop-place.place c.requires.ends (omega arith))
    ∙ c.loop-place.invariant.1)

pub returns-clause-same : goal.returns-clause-same
returns-clause-same c =
    let slots = c.args.slots.now in
    let none = sym c.loop-place.invariant.1
    ∙ none_behind slots c.args.low c.args.end c.loop-place.place c.requires.ends (omega arith) in
    closed_after slots c.args.low c.args.end none ∙ sym none
