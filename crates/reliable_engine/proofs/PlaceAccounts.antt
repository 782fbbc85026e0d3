-- Each place that was sent has one fate, or is waited for.
use Rattle.std.proofs.Common.{◌≡◌, ℕ, zero, suc, ◌+◌, ◌<◌, ◌≤◌, Bool, true, false, cond, List, [], ◌∷◌, ◌++◌, take}
use Rattle.std.proofs.Common.{drop, map, length, Some, refl, sym, ap, ◌∙◌, inl, inr, subst, arith}
use Rattle.std.proofs.Common.{length-append}
use Rattle.std.proofs.lemmas.Bool.{cases_lt}
use Rattle.std.proofs.lemmas.Bool.Decides.{eqb_tells}
use Rattle.std.proofs.lemmas.List.{take-append-drop}
use Rattle.world_model.specs.declared.offered.OpenPlace.{OpenPlace}
use Rattle.world_model.specs.declared.offered.Offered.{Offered}
use Rattle.world_model.specs.declared.offered.Fate.{Fate}
use Rattle.world_model.specs.declared.offered.Fate.TheVariants.{Replied, TimedOut, Unsent}
use Rattle.world_model.specs.Places.{at_place}
use Rattle.world_model.specs.Hub.{Hub, abandoned_place, give_up, insert_fate, new_hub, open_with, recover, settle}
use Rattle.world_model.specs.Hub.{tag_of, time_out, unsent_fate, want_control, without}
use Rattle.world_model.specs.Sends.{opened_place}
use Rattle.world_model.specs.History.{times}
use Rattle.world_model.proofs.Accounts.{IsCount, count_append, count_inserted}
use Rattle.world_model.proofs.Hubs.{recover_place}
use Rattle.world_model.proofs.Lists.{either}
use Rattle.reliable_engine.specs.Events.{HubEvent, after_event, after_events}
use Rattle.reliable_engine.specs.ToldFates.{IsSentPlace, all_fates, fate_places, fates_handed_out, handed_out, tellings}
use Rattle.reliable_engine.specs.ToldFates.{waited_places}
use Rattle.reliable_engine.proofs.Cases.{after_is}
use Rattle.reliable_engine.proofs.Keeping.{SameWaited, found, place_waits, recover_waits, waited_map, waits_first}
use Rattle.reliable_engine.proofs.Keeping.{wanted_waited}

-- ---- the places up to the last one

abbrev pub places_to : ℕ → List ℕ
places_to zero = []
places_to (suc n) = suc n ∷ places_to n

none_past : (place n : ℕ) → n < place → times place (places_to n) ≡ 0
none_past place zero past = refl
none_past place (suc n) past = elim (eqb_tells (suc n) place) [
  | inl here ↦ absurd (omega (arith, here.1))
  | inr apart ↦ rw apart.0 (omega (arith, none_past place n (omega arith)))
]

none_at_zero : (n : ℕ) → times 0 (places_to n) ≡ 0
none_at_zero zero = refl
none_at_zero (suc n) = elim (eqb_tells (suc n) 0) [
  | inl here ↦ absurd (omega (arith, here.1))
  | inr apart ↦ rw apart.0 (omega (arith, none_at_zero n))
]

one_within : (place n : ℕ) → 1 ≤ place → place ≤ n → times place (places_to n) ≡ 1
one_within place zero one within = absurd (omega arith)
one_within place (suc n) one within = elim (eqb_tells (suc n) place) [
  | inl here ↦ rw here.0 (omega (arith, here.1, none_past place n (omega (arith, here.1))))
  | inr apart ↦ rw apart.0 (
      let other : suc n ≡ place → ⊥ = apart.1 in
      let rest : place ≤ n = omega arith in
      omega (arith, one_within place n one rest))
]

at_most_one : (place n : ℕ) → times place (places_to n) ≤ 1
at_most_one place zero = omega arith
at_most_one place (suc n) = elim (eqb_tells (suc n) place) [
  | inl here ↦ rw here.0 (omega (arith, here.1, none_past place n (omega (arith, here.1))))
  | inr apart ↦ rw apart.0 (omega (arith, at_most_one place n))
]

-- ---- fates of a place

abbrev pub fates_at : ℕ → List (ℕ × Fate) → ℕ
fates_at place fates = times place (fate_places fates)

at_more : (place : ℕ) (fate : ℕ × Fate) (fates : List (ℕ × Fate))
    → fates_at place (fate ∷ fates) ≡ fates_at place (fate ∷ []) + fates_at place fates
at_more place (tag, Replied other words) fates = omega arith
at_more place (tag, TimedOut other rounds) fates = omega arith
at_more place (tag, Unsent) fates = omega arith

at_count : (place : ℕ) → IsCount (fates_at place)
at_count place = record { none = refl; more = at_more place }

none_unsent : (place : ℕ) (queue : List Offered) → fates_at place (map unsent_fate queue) ≡ 0
none_unsent place [] = refl
none_unsent place (x ∷ xs) = none_unsent place xs

-- ---- places that are waited for

none_waited : (os : List OpenPlace) → waited_places (map abandoned_place os) ≡ []
none_waited [] = refl
none_waited (o ∷ os) = none_waited os

waited_push : (place : ℕ) (os : List OpenPlace) (o : OpenPlace)
    → place_waits place (os ++ o ∷ []) ≡ place_waits place os + place_waits place (o ∷ [])
waited_push place [] o = omega arith
waited_push place (x ∷ os) o =
    omega (arith, waits_first place x (os ++ o ∷ []), waits_first place x os, waited_push place os o)

-- each time-out is that of a place that was waited for
time_out_places : (place rounds : ℕ) (sent : List Offered) (os : List OpenPlace) (fates : List (ℕ × Fate))
    → fates_at place (time_out rounds sent os fates) ≡ fates_at place fates + place_waits place os
time_out_places place rounds sent [] fates = omega arith
time_out_places place rounds sent (o ∷ os) fates =
    let new : ℕ × Fate = (tag_of (at_place sent o.place), TimedOut o.place rounds) in
    elim o.waited as (λ b. fates_at place (time_out rounds sent os (cond b (insert_fate o.place new fates) fates))
    ≡ fates_at place fates + times place (cond b (o.place ∷ waited_places os) (waited_places os))) [
      | true ↦ omega (
        arith,
        time_out_places place rounds sent os (insert_fate o.place new fates),
        count_inserted (fates_at place) (at_count place) o.place new fates,
      )
      | false ↦ time_out_places place rounds sent os fates
    ]

-- ---- the account of a place

-- with so many fates of it handed out before
abbrev IsPlaced : ℕ → ℕ → Hub → Type 0
IsPlaced place before h = times place (places_to (length h.sent)) ≡ before + tellings h h.fates place

abbrev Placed : ℕ → ℕ → List (ℕ × Fate) → Hub → Type 0
Placed place before now after = IsPlaced place (before + fates_at place now) after

settle_placed : (place before : ℕ) (h : Hub) (id : ℕ) (words : List ℕ) (o : OpenPlace)
    → open_with h.first id h.open_places ≡ Some o → IsPlaced place before h
    → IsPlaced place (before + 0) (settle h words (Some o))
settle_placed place before h id words o told is =
    let gone = (found h.first id h.open_places o told).gone.waited place in
    let new : ℕ × Fate = (tag_of (at_place h.sent o.place), Replied o.place words) in
    let by : (b : Bool) → place_waits place h.open_places
    ≡ times place (cond b (o.place ∷ []) []) + place_waits place (without o.place h.open_places)
    → times place (places_to (length h.sent)) ≡ before + 0 + (fates_at place (cond b (insert_fate o.place new h.fates)
    h.fates) + place_waits place (without o.place h.open_places)) =
    λ b. elim b as (λ (x : Bool). place_waits place h.open_places
    ≡ times place (cond x (o.place ∷ []) []) + place_waits place (without o.place h.open_places)
    → times place (places_to (length h.sent)) ≡ before + 0 + (fates_at place (cond x (insert_fate o.place new h.fates)
    h.fates) + place_waits place (without o.place h.open_places))) [
      | true ↦ λ e. omega (arith, is, e, count_inserted (fates_at place) (at_count place) o.place new h.fates)
      | false ↦ λ e. omega (arith, is, e)
    ] in
    by o.waited gone

give_up_placed : (place before : ℕ) (h : Hub) → IsPlaced place before h → IsPlaced place (before + 0) (give_up h)
give_up_placed place before h is = omega (
  arith,
  is,
  ap (times place) (none_waited h.open_places),
  count_append (fates_at place) (at_count place) (time_out h.rounds h.sent h.open_places h.fates) (map unsent_fate h.queue),
  none_unsent place h.queue,
  time_out_places place h.rounds h.sent h.open_places h.fates,
)

first_placed : (place before : ℕ) (h : Hub) (x : Offered) → IsPlaced place before h
    → times place (places_to (length (h.sent ++ x ∷ []))) ≡ before + 0
    + (fates_at place h.fates + place_waits place (h.open_places ++ opened_place (length h.sent + 1) ∷ []))
first_placed place before h x is =
    let longer : length (h.sent ++ x ∷ []) ≡ suc (length h.sent) = omega (arith, length-append h.sent (x ∷ [])) in
    let next : length h.sent + 1 ≡ suc (length h.sent) = omega arith in
    rw (longer, next) (omega (arith, is, waited_push place h.open_places (opened_place (suc (length h.sent)))))

event_placed : (place before : ℕ) (h : Hub) (event : HubEvent) → IsPlaced place before h
    → Placed place before (fates_handed_out h event) (after_event h event)
event_placed place before h event is = after_is (λ now. Placed place before now.fates) h (record {
  offered = λ x. either (λ (os : List OpenPlace). times place (places_to (length h.sent)) ≡ before + 0
      + (fates_at place h.fates + place_waits place os)) h.gave_up (map want_control h.open_places) h.open_places
      (λ _. omega (arith, is, ap (times place) (waited_map want_control h.open_places (λ _. refl) (λ _. refl))))
      (λ _. omega (arith, is));
  same = omega (arith, is);
  told = λ at. omega (
    arith,
    is,
    ap (times place) (waited_map (recover at) h.open_places (recover_place at) (recover_waits at)),
  );
  settled = λ id words o told. settle_placed place before h id words o told is;
  wants_status = omega (arith, is);
  gives_up = give_up_placed place before h is;
  asked = omega (arith, is);
  wished = λ w e. omega (
    arith,
    is,
    ap (times place) (subst (SameWaited h.open_places) e
        (wanted_waited h.first h.open_places)),
  );
  sent_first = λ x later e room. first_placed place before h x is;
  handed = omega (
    arith,
    is,
    ap (fates_at place) (take-append-drop 1 h.fates),
    count_append (fates_at place) (at_count place) (take 1 h.fates) (drop 1 h.fates),
  );
  late_handed = omega (arith, is);
}) event

placed : (place before : ℕ) (h : Hub) (events : List HubEvent) → IsPlaced place before h
    → Placed place before (handed_out h events) (after_events h events)
placed place before h [] is = omega (arith, is)
placed place before h (event ∷ events) is =
    let after = after_event h event in
    let one = event_placed place before h event is in
    let later = placed place (before + fates_at place (fates_handed_out h event)) after events one in
    omega (arith, later, count_append (fates_at place) (at_count place) (fates_handed_out h event) (handed_out after events))

pub place_account : (first window rounds : ℕ) (events : List HubEvent) (place : ℕ)
    → times place (places_to (length (after_events (new_hub first window rounds) events).sent))
    ≡ tellings (after_events (new_hub first window rounds) events)
    (all_fates (new_hub first window rounds) events) place
place_account first window rounds events place =
    let start = new_hub first window rounds in
    let after = after_events start events in
    let all = placed place 0 start events refl in
    omega (arith, all, count_append (fates_at place) (at_count place) (handed_out start events) after.fates)

-- ---- what follows

pub told_once : (first window rounds : ℕ) (events : List HubEvent) (place : ℕ)
    → fates_at place (all_fates (new_hub first window rounds) events) ≤ 1
told_once first window rounds events place =
    let sent = length (after_events (new_hub first window rounds) events).sent in
    omega (arith, place_account first window rounds events place, at_most_one place sent)

pub one_telling : (first window rounds : ℕ) (events : List HubEvent) (place : ℕ)
    → IsSentPlace (after_events (new_hub first window rounds) events) place
    → tellings (after_events (new_hub first window rounds) events)
    (all_fates (new_hub first window rounds) events) place
    ≡ 1
one_telling first window rounds events place is =
    let sent = length (after_events (new_hub first window rounds) events).sent in
    sym (place_account first window rounds events place) ∙ one_within place sent is.from_one is.up_to_last

-- a place that is told of is one of those sent
sent_one : (place n : ℕ) → 1 ≤ times place (places_to n) → (1 ≤ place) × (place ≤ n)
sent_one zero n some = absurd (omega (arith, none_at_zero n))
sent_one (suc k) n some = elim (cases_lt n (suc k)) [
  | inl past ↦ absurd (omega (arith, none_past (suc k) n past))
  | inr within ↦ (omega arith, within)
]

pub only_sent : (first window rounds : ℕ) (events : List HubEvent) (place : ℕ)
    → 1 ≤ tellings (after_events (new_hub first window rounds) events) (all_fates (new_hub first window rounds) events)
    place → IsSentPlace (after_events (new_hub first window rounds) events) place
only_sent first window rounds events place told =
    let sent = length (after_events (new_hub first window rounds) events).sent in
    let is = sent_one place sent (omega (arith, place_account first window rounds events place)) in
    record { from_one = is.0; up_to_last = is.1 }
