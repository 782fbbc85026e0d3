use Rattle.std.proofs.Common.{ℕ, List, Option, Some, ap, sym, ◌∙◌, refl, subst, arith}
use Rattle.world_model.specs.declared.sending.Sending.TheVariants as sends
use Rattle.world_model.specs.Sends.{first_wanted}
use Rattle.reliable_engine.specs.declared.slots.Flags.{Flags}
use Rattle.reliable_engine.specs.declared.slots.TheConstants.{SLOTS}
use Rattle.reliable_engine.specs.Slots.{EndsAt, open_from}
use Rattle.reliable_engine.specs.Steps.{places_wanted, sending_of}
use Rattle.reliable_engine.proofs.Wanting.{quiet_closed, quiet_open, quiet_start, take_control, take_none, take_resend}
use Rattle.reliable_engine.proofs.slots.take_wanted_slot.Goals as goal

pub loop-place-init : goal.loop-place-init
loop-place-init c = record { same = refl; quiet = quiet_start c.args.first c.args.low c.args.slots.now }

pub loop-place-preserved-in_default : goal.loop-place-preserved-in_default
loop-place-preserved-in_default c = record {
  same = c.loop-place.invariant.same;
  quiet = quiet_closed c.args.first c.args.low c.loop-place.place c.loop-place.slots (omega arith)
      (omega (arith, c.requires.ends.near)) (sym c.read_slot.ensures ∙ c.in_default.is)
      c.loop-place.invariant.quiet;
}

pub returns-then-open-clause-send : goal.returns-then-open-clause-send
returns-then-open-clause-send c =
    let first = c.args.first in
    let low = c.args.low in
    let taken = take_resend first low c.loop-place.place c.loop-place.slots c.put_slot.new.slots c.in-Some.open
    (omega arith) (omega (arith, c.requires.ends.near)) (sym c.read_slot.ensures ∙ c.in-Some.is) c.if-open.true
    c.loop-place.invariant.quiet c.put_slot.ensures in
    ap (λ (n : ℕ). Some (sends.Resend n)) c.id_at.ensures.identifier
    ∙ (sym (ap sending_of taken.is)
    ∙ ap (λ (slots : List (Option Flags)). sending_of (first_wanted first (open_from slots low SLOTS)))
    c.loop-place.invariant.same)

pub returns-then-open-clause-after : goal.returns-then-open-clause-after
returns-then-open-clause-after c =
    let first = c.args.first in
    let low = c.args.low in
    let old = c.loop-place.slots in
    let taken = take_resend first low c.loop-place.place old c.put_slot.new.slots c.in-Some.open
    (omega arith) (omega (arith, c.requires.ends.near)) (sym c.read_slot.ensures ∙ c.in-Some.is) c.if-open.true
    c.loop-place.invariant.quiet c.put_slot.ensures in
    taken.after
    ∙ (sym (ap (places_wanted (open_from old low SLOTS)) taken.is)
    ∙ ap (λ (slots : List (Option Flags)).
    places_wanted (open_from slots low SLOTS) (first_wanted first (open_from slots low SLOTS)))
    c.loop-place.invariant.same)

pub returns-then-open-2-clause-send : goal.returns-then-open-2-clause-send
returns-then-open-2-clause-send c =
    let first = c.args.first in
    let low = c.args.low in
    let taken = take_control first low c.loop-place.place c.loop-place.slots c.put_slot-then-open-2.new.slots
    c.in-Some.open (omega arith) (omega (arith, c.requires.ends.near)) (sym c.read_slot.ensures ∙ c.in-Some.is)
    c.if-open.false c.if-open-2.true c.loop-place.invariant.quiet c.put_slot-then-open-2.ensures in
    ap (λ (n : ℕ). Some (sends.Control c.loop-place.place n)) c.id_at-then-open-2.ensures.identifier
    ∙ (sym (ap sending_of taken.is)
    ∙ ap (λ (slots : List (Option Flags)). sending_of (first_wanted first (open_from slots low SLOTS)))
    c.loop-place.invariant.same)

pub returns-then-open-2-clause-after : goal.returns-then-open-2-clause-after
returns-then-open-2-clause-after c =
    let first = c.args.first in
    let low = c.args.low in
    let old = c.loop-place.slots in
    let taken = take_control first low c.loop-place.place old c.put_slot-then-open-2.new.slots
    c.in-Some.open (omega arith) (omega (arith, c.requires.ends.near)) (sym c.read_slot.ensures ∙ c.in-Some.is)
    c.if-open.false c.if-open-2.true c.loop-place.invariant.quiet c.put_slot-then-open-2.ensures in
    taken.after
    ∙ (sym (ap (places_wanted (open_from old low SLOTS)) taken.is)
    ∙ ap (λ (slots : List (Option Flags)).
    places_wanted (open_from slots low SLOTS) (first_wanted first (open_from slots low SLOTS)))
    c.loop-place.invariant.same)

pub loop-place-preserved : goal.loop-place-preserved
loop-place-preserved c = record {
  same = c.loop-place.invariant.same;
  quiet = quiet_open c.args.first c.args.low c.loop-place.place c.loop-place.slots c.in-Some.open (omega arith)
      (omega (arith, c.requires.ends.near)) (sym c.read_slot.ensures ∙ c.in-Some.is) c.if-open.false
      c.if-open-2.false c.loop-place.invariant.quiet;
}

pub returns-clause-send : goal.returns-clause-send
returns-clause-send c =
    let first = c.args.first in
    let low = c.args.low in
    let ends = subst (λ (slots : List (Option Flags)). EndsAt low c.args.end (open_from slots low SLOTS))
    (sym c.loop-place.invariant.same) c.requires.ends in
    let none = take_none first low c.args.end c.loop-place.place c.loop-place.slots ends (omega arith)
    c.loop-place.invariant.quiet in
    sym (ap sending_of none)
    ∙ ap (λ (slots : List (Option Flags)). sending_of (first_wanted first (open_from slots low SLOTS)))
    c.loop-place.invariant.same

pub returns-clause-after : goal.returns-clause-after
returns-clause-after c =
    let first = c.args.first in
    let low = c.args.low in
    let old = c.loop-place.slots in
    let ends = subst (λ (slots : List (Option Flags)). EndsAt low c.args.end (open_from slots low SLOTS))
    (sym c.loop-place.invariant.same) c.requires.ends in
    let none = take_none first low c.args.end c.loop-place.place old ends (omega arith)
    c.loop-place.invariant.quiet in
    sym (ap (places_wanted (open_from old low SLOTS)) none)
    ∙ ap (λ (slots : List (Option Flags)).
    places_wanted (open_from slots low SLOTS) (first_wanted first (open_from slots low SLOTS)))
    c.loop-place.invariant.same
