use Rattle.std.proofs.Common.{◌≡◌, ℕ, List, Some, None, ap, sym, ◌∙◌, subst, arith}
use Rattle.world_model.specs.declared.offered.OpenPlace.{OpenPlace}
use Rattle.world_model.specs.Hub.{least, open_with, places, without}
use Rattle.world_model.proofs.Places.{rising_end}
use Rattle.reliable_engine.specs.declared.slots.TheConstants.{SLOTS}
use Rattle.reliable_engine.specs.Slots.{EndsAt, IsSlotted, open_at, open_from}
use Rattle.reliable_engine.proofs.InSlots.{ends_less, none_between, none_named, one_named, place_at, slotted_less}
use Rattle.reliable_engine.proofs.InSlots.{taken_out}
use Rattle.reliable_engine.proofs.open_places.OpenPlaces.take_open.Goals as goal

pub returns-then-self-clause-found : goal.returns-then-self-clause-found
returns-then-self-clause-found c =
    let i = c.self.inside in
    let os = open_from i.slots i.low SLOTS in
    let none = none_between i.low i.end os c.self.invariant.ends.rising c.if-self.true in
    ap (open_with c.args.first c.args.id) (sym none ∙ c.self.view_is)

pub place_of-requires-clause-up_to_end : goal.place_of-requires-clause-up_to_end
place_of-requires-clause-up_to_end c =
    let i = c.self.inside in
    let from = rising_end i.low i.end (places (open_from i.slots i.low SLOTS)) c.self.invariant.ends.rising in
    omega (arith, c.self.invariant.up_to_end)

pub lowest_open-self-inside-requires-clause-ends : goal.lowest_open-self-inside-requires-clause-ends
lowest_open-self-inside-requires-clause-ends c =
    let i = c.self.inside in
    let place = c.in_ok-place.place in
    let at = c.in_ok-place.ensures.found in
    let there : open_at i.slots place ≡ Some c.in_ok-open.open = sym c.read_slot.ensures ∙ c.in_ok-open.was in
    let out = taken_out i.slots c.clear_slot.new.slots i.low place c.in_ok-open.open at.from_low at.within there
    c.clear_slot.ensures in
    subst (EndsAt i.low i.end) (sym out)
    (ends_less i.low i.end place (open_from i.slots i.low SLOTS) c.self.invariant.ends)

pub returns-in_err-place-clause-found : goal.returns-in_err-place-clause-found
returns-in_err-place-clause-found c =
    let i = c.self.inside in
    let none = none_named i.slots c.args.first c.args.id i.low SLOTS (λ other from below same.
    c.in_err-place.ensures.none other (record { from_low = from; within = below; identifier = same })) in
    c.from_residual.ensures ∙ (sym none ∙ ap (open_with c.args.first c.args.id) c.self.view_is)

pub returns-in_err-open-clause-found : goal.returns-in_err-open-clause-found
returns-in_err-open-clause-found c =
    let i = c.self.inside in
    let at = c.in_ok-place.ensures.found in
    let found = one_named i.slots c.args.first c.args.id i.low c.in_ok-place.place at.from_low at.within at.identifier
    (λ other from below same.
    let e = c.in_ok-place.ensures.only other (record { from_low = from; within = below; identifier = same }) in cc) in
    let none : open_at i.slots c.in_ok-place.place ≡ None = sym c.read_slot.ensures ∙ c.in_err-open.was in
    c.from_residual-in_err-open.ensures
    ∙ (sym (found ∙ none) ∙ ap (open_with c.args.first c.args.id) c.self.view_is)

pub returns-clause-found : goal.returns-clause-found
returns-clause-found c =
    let i = c.self.inside in
    let at = c.in_ok-place.ensures.found in
    let found = one_named i.slots c.args.first c.args.id i.low c.in_ok-place.place at.from_low at.within at.identifier
    (λ other from below same.
    let e = c.in_ok-place.ensures.only other (record { from_low = from; within = below; identifier = same }) in cc) in
    let there : open_at i.slots c.in_ok-place.place ≡ Some c.in_ok-open.open =
    sym c.read_slot.ensures ∙ c.in_ok-open.was in
    sym (found ∙ there) ∙ ap (open_with c.args.first c.args.id) c.self.view_is

pub invariant_of-self : goal.invariant_of-self
invariant_of-self c =
    let i = c.self.inside in
    let os = open_from i.slots i.low SLOTS in
    let place = c.in_ok-place.place in
    let at = c.in_ok-place.ensures.found in
    let there : open_at i.slots place ≡ Some c.in_ok-open.open = sym c.read_slot.ensures ∙ c.in_ok-open.was in
    let out = taken_out i.slots c.clear_slot.new.slots i.low place c.in_ok-open.open at.from_low at.within there
    c.clear_slot.ensures in
    let low = c.lowest_open-self-inside.result in
    let lowest : low ≡ least (places (without place os)) i.end =
    c.lowest_open-self-inside.ensures.lowest ∙ ap (λ (qs : List OpenPlace). least (places qs) i.end) out in
    subst (IsSlotted low i.end) (sym (c.lowest_open-self-inside.ensures.same ∙ out))
    (subst (λ (n : ℕ). IsSlotted n i.end (without place os)) (sym lowest)
    (slotted_less i.low i.end place os c.self.invariant))

pub returns-clause-after : goal.returns-clause-after
returns-clause-after c =
    let i = c.self.inside in
    let at = c.in_ok-place.ensures.found in
    let o = c.in_ok-open.open in
    let there : open_at i.slots c.in_ok-place.place ≡ Some o = sym c.read_slot.ensures ∙ c.in_ok-open.was in
    let out = taken_out i.slots c.clear_slot.new.slots i.low c.in_ok-place.place o at.from_low at.within there
    c.clear_slot.ensures in
    c.lowest_open-self-inside.ensures.same
    ∙ (out
    ∙ (ap (λ (n : ℕ). without n (open_from i.slots i.low SLOTS)) (sym (place_at i.slots c.in_ok-place.place o there))
    ∙ ap (without o.place) c.self.view_is))
