-- The laws over every list of events.
use Rattle.std.proofs.Common.{◌≡◌, ◌≤◌, ◌<◌, ℕ, Bool, true, false, ◌==◌, length, List}
use Rattle.std.proofs.Common.{[]}
use Rattle.std.proofs.Common.{◌∷◌, ◌++◌, ◌+◌, Some, refl, sym, ap, ◌∙◌, subst, arith, inl, inr}
use Rattle.std.proofs.Common.{length-append, append_assoc}
use Rattle.std.proofs.lemmas.Bool.Decides.{eqb_tells}
use Rattle.std.proofs.lemmas.List.{map-append, append-nil}
use Rattle.ipb_base.specs.Lists.{IsPrefix}
use Rattle.packet_ids.specs.Identifier.{IsIdentifier}
use Rattle.world_model.specs.declared.offered.OpenPlace.{OpenPlace}
use Rattle.world_model.specs.declared.offered.Offered.{Offered}
use Rattle.world_model.specs.Hub.{Hub, low, places, place_of, new_hub, want_control}
use Rattle.world_model.specs.Hub.{recover, abandoned_place}
use Rattle.world_model.specs.Sends.{Next, opened_place, next_send}
use Rattle.world_model.specs.declared.sending.Sending.TheVariants as sends
use Rattle.world_model.specs.Facts.{has, IsWindow}
use Rattle.reliable_engine.specs.Answers.{IsOpen, IsSendOf, hub_next}
use Rattle.reliable_engine.specs.Events.{HubEvent, Send, after_event}
use Rattle.reliable_engine.specs.Events.{after_events}
use Rattle.reliable_engine.specs.Events.{IsInWindow}
use Rattle.world_model.proofs.Hubs.{IsWantedOr, places_map, places_without, recover_place, wanted_is}
use Rattle.world_model.proofs.Lists.{either}
use Rattle.world_model.proofs.Places.{less, window_less, window_push}
use Rattle.reliable_engine.proofs.Cases.{after_is}
use Rattle.reliable_engine.proofs.Hubs.{send_open}
use Rattle.reliable_engine.proofs.Places.{lowest_open, open_once, open_sent}

-- ---- what an event does to the places: nothing, or one is closed, or the next one is opened

data IsStep (h h2 : Hub) : Type 0 where
  same : h2.sent ≡ h.sent → places h2.open_places ≡ places h.open_places → IsStep h h2
  closed : (place : ℕ) → h2.sent ≡ h.sent → places h2.open_places ≡ less place (places h.open_places) → IsStep h h2
  sent_one : (x : Offered) → h2.sent ≡ h.sent ++ x ∷ []
      → places h2.open_places ≡ places h.open_places ++ (length h.sent + 1) ∷ []
      → length h.sent + 2 ≤ h.window + low h → IsStep h h2

step_of : (h : Hub) (event : HubEvent) → IsStep h (after_event h event)
step_of h event = after_is (λ _ after. IsStep h after) h (record {
  offered = λ x. same refl (either (λ (os : List OpenPlace). places os ≡ places h.open_places) h.gave_up _ _
      (λ _. places_map want_control h.open_places (λ _. refl)) (λ _. refl));
  same = same refl refl;
  told = λ at. same refl (places_map (recover at) h.open_places (recover_place at));
  settled = λ id words o told. closed o.place refl (places_without o.place h.open_places);
  wants_status = same refl refl;
  gives_up = same refl (places_map abandoned_place h.open_places (λ _. refl));
  asked = same refl refl;
  wished = λ w told. same refl (subst (IsWantedOr h.first h.open_places) told
      (wanted_is h.first h.open_places)).same;
  sent_first = λ x later queue room. sent_one x refl
      (map-append place_of h.open_places (opened_place (length h.sent + 1) ∷ [])) room;
  handed = same refl refl;
  late_handed = same refl refl;
}) event

-- ---- the numbers of the hub

record Same (h h2 : Hub) : Type 0 where
  first : h2.first ≡ h.first
  window : h2.window ≡ h.window
  rounds : h2.rounds ≡ h.rounds

numbers_of : (h : Hub) (event : HubEvent) → Same h (after_event h event)
numbers_of h event =
    let same : Same h h = record { first = refl; window = refl; rounds = refl } in
    after_is (λ _ after. Same h after) h (record {
      offered = λ x. record { first = refl; window = refl; rounds = refl };
      same = same;
      told = λ at. record { first = refl; window = refl; rounds = refl };
      settled = λ id words o told. record { first = refl; window = refl; rounds = refl };
      wants_status = record { first = refl; window = refl; rounds = refl };
      gives_up = record { first = refl; window = refl; rounds = refl };
      asked = record { first = refl; window = refl; rounds = refl };
      wished = λ w told. record { first = refl; window = refl; rounds = refl };
      sent_first = λ x later queue room. record { first = refl; window = refl; rounds = refl };
      handed = record { first = refl; window = refl; rounds = refl };
      late_handed = record { first = refl; window = refl; rounds = refl };
    }) event

pub same_first : (h : Hub) (events : List HubEvent) → (after_events h events).first ≡ h.first
same_first h [] = refl
same_first h (event ∷ events) = same_first (after_event h event) events ∙ (numbers_of h event).first

pub same_window : (h : Hub) (events : List HubEvent) → (after_events h events).window ≡ h.window
same_window h [] = refl
same_window h (event ∷ events) = same_window (after_event h event) events ∙ (numbers_of h event).window

pub same_rounds : (h : Hub) (events : List HubEvent) → (after_events h events).rounds ≡ h.rounds
same_rounds h [] = refl
same_rounds h (event ∷ events) = same_rounds (after_event h event) events ∙ (numbers_of h event).rounds

-- ---- the window

abbrev pub IsHub : Hub → Type 0
IsHub h = IsWindow h.window (length h.sent) (places h.open_places)

window_step : (h h2 : Hub) → h2.window ≡ h.window → IsStep h h2 → IsHub h → IsHub h2
window_step h h2 w (same s p) is = rw (w, s, p) is
window_step h h2 w (closed place s p) is = rw (w, s, p)
    (window_less h.window (length h.sent) place (places h.open_places) is)
window_step h h2 w (sent_one x s p room) is =
    let longer = length-append h.sent (x ∷ []) in
    rw (w, s, p, longer) (window_push h.window (length h.sent) (places h.open_places) is (omega arith))

pub stays_hub : (h : Hub) (events : List HubEvent) → IsHub h → IsHub (after_events h events)
stays_hub h [] is = is
stays_hub h (event ∷ events) is =
    stays_hub (after_event h event) events (window_step h _ (numbers_of h event).window (step_of h event) is)

pub new_is_hub : (first window rounds : ℕ) → window ≤ 16 → 1 ≤ window → IsHub (new_hub first window rounds)
new_is_hub first window rounds few one =
    record { few = few; rising = omega arith; from_one = omega arith; within = omega arith }

pub in_window : (h : Hub) → IsIdentifier h.first → IsHub h → IsInWindow h
in_window h id is = record {
  no_more = omega (arith, is.within);
  from_low = λ place there. lowest_open h.window (length h.sent) place (places h.open_places) is there;
  up_to_last = λ place there. (open_sent h.window (length h.sent) place (places h.open_places) is there).1;
  one_named = λ place other there here same.
      open_once h.first h.window (length h.sent) place other (places h.open_places) id is there here same;
}

-- ---- a place keeps its body

body_step : (h h2 : Hub) → IsStep h h2 → IsPrefix h.sent h2.sent
body_step h h2 (same s p) = ([], s ∙ sym (append-nil h.sent))
body_step h h2 (closed place s p) = ([], s ∙ sym (append-nil h.sent))
body_step h h2 (sent_one x s p room) = (x ∷ [], s)

prefix_trans : {A : Type 0} (xs ys zs : List A) → IsPrefix xs ys → IsPrefix ys zs → IsPrefix xs zs
prefix_trans {A = A} xs ys zs front more =
    (front.0 ++ more.0, more.1 ∙ (ap (λ (l : List A). l ++ more.0) front.1 ∙ append_assoc xs front.0 more.0))

pub keeps_bodies : (h : Hub) (events : List HubEvent) → IsPrefix h.sent (after_events h events).sent
keeps_bodies h [] = ([], sym (append-nil h.sent))
keeps_bodies h (event ∷ events) =
    prefix_trans h.sent (after_event h event).sent (after_events (after_event h event) events).sent
    (body_step h (after_event h event) (step_of h event)) (keeps_bodies (after_event h event) events)

-- ---- a place that is closed stays closed

gone_less : (place other : ℕ) (ps : List ℕ) → has place ps ≡ false → has place (less other ps) ≡ false
gone_less place other [] gone = gone
gone_less place other (p ∷ ps) gone = elim (eqb_tells p place) [
  | inl here ↦ absurd (let bad : has place (p ∷ ps) ≡ true = rw here.0 refl in let e = sym gone ∙ bad in cc)
  | inr apart ↦
      let later : has place ps ≡ false =
      (let e : has place (p ∷ ps) ≡ has place ps = rw apart.0 refl in sym e ∙ gone) in
      either (λ (qs : List ℕ). has place qs ≡ false) (p == other) ps (p ∷ less other ps)
      (λ _. later)
      (λ _. let e : has place (p ∷ less other ps) ≡ has place (less other ps) = rw apart.0 refl in
      e ∙ gone_less place other ps later)
]

gone_push : (place next : ℕ) (ps : List ℕ) → has place ps ≡ false → place < next → has place (ps ++ next ∷ []) ≡ false
gone_push place next [] gone before = elim (eqb_tells next place) [
  | inl here ↦ absurd (omega (arith, here.1))
  | inr apart ↦ rw apart.0 refl
]
gone_push place next (p ∷ ps) gone before = elim (eqb_tells p place) [
  | inl here ↦ absurd (let bad : has place (p ∷ ps) ≡ true = rw here.0 refl in let e = sym gone ∙ bad in cc)
  | inr apart ↦
      let later : has place ps ≡ false =
      (let e : has place (p ∷ ps) ≡ has place ps = rw apart.0 refl in sym e ∙ gone) in
      let e : has place (p ∷ (ps ++ next ∷ [])) ≡ has place (ps ++ next ∷ []) = rw apart.0 refl in
      e ∙ gone_push place next ps later before
]

record IsClosed (h : Hub) (place : ℕ) : Type 0 where
  sent : place ≤ length h.sent
  gone : has place (places h.open_places) ≡ false

closed_step : (h h2 : Hub) (place : ℕ) → IsStep h h2 → IsClosed h place → IsClosed h2 place
closed_step h h2 place (same s p) is = record { sent = rw s is.sent; gone = rw p is.gone }
closed_step h h2 place (closed other s p) is =
    record { sent = rw s is.sent; gone = rw p (gone_less place other (places h.open_places) is.gone) }
closed_step h h2 place (sent_one x s p room) is = record {
  sent = omega (arith, ap length s, length-append h.sent (x ∷ []), is.sent);
  gone = rw p (gone_push place (length h.sent + 1) (places h.open_places) is.gone (omega (arith, is.sent)));
}

closed_on : (h : Hub) (place : ℕ) (events : List HubEvent) → IsClosed h place → IsClosed (after_events h events) place
closed_on h place [] is = is
closed_on h place (event ∷ events) is =
    closed_on (after_event h event) place events (closed_step h _ place (step_of h event) is)

pub not_open : (b : Bool) → (b ≡ true → ⊥) → b ≡ false
not_open true n = absurd (n refl)
not_open false n = refl

pub closed_for_good : (h : Hub) (events : List HubEvent) (place : ℕ) → place ≤ length h.sent → (IsOpen h place → ⊥)
    → IsOpen (after_events h events) place → ⊥
closed_for_good h events place sent gone there =
    let is = closed_on h place events (record { sent = sent; gone = not_open _ gone }) in
    absurd (let e = sym is.gone ∙ there in cc)

-- ---- no send for a closed place

pub not_sent_again : (h : Hub) (events : List HubEvent) (next : Next) (place id : ℕ) → place ≤ length h.sent
    → (IsOpen h place → ⊥) → next_send (after_events h events) ≡ Some next → next.send ≡ sends.Control place id → ⊥
not_sent_again h events next place id sent gone e told =
    let last = after_events h events in
    let is = closed_on h place events (record { sent = sent; gone = not_open _ gone }) in
    let after : next.hub ≡ hub_next last (next_send last) = ap (hub_next last) (sym e) in
    let closed = closed_step last (hub_next last (next_send last)) place (step_of last Send) is in
    let there : IsSendOf next.hub (sends.Control place id) = subst (IsSendOf next.hub) told (send_open last next e) in
    let here : has place (places (hub_next last (next_send last)).open_places) ≡ true =
    ap (λ (x : Hub). has place (places x.open_places)) (sym after) ∙ there in
    absurd (let bad = sym closed.gone ∙ here in cc)
