-- What a reply settles, and what a give-up ends.
use Rattle.std.proofs.Common.{◌≡◌, ◌≢◌, ◌≤◌, ◌<◌, ℕ, Bool, true, false, ◌==◌, ◌||◌, length, map, List}
use Rattle.std.proofs.Common.{[]}
use Rattle.std.proofs.Common.{◌∷◌, ◌+◌, Option, Some, None, refl, sym, ap, ◌∙◌, subst, arith, inl, inr}
use Rattle.std.specs.Prelude.{nat_lt}
use Rattle.std.specs.List.{AllByRecursion}
use Rattle.std.proofs.lemmas.Bool.{lt-ltb, le-ltb}
use Rattle.std.proofs.lemmas.Bool.Decides.{eqb_tells}
use Rattle.packet_ids.specs.Identifier.{identifier_at, IsIdentifier}
use Rattle.world_model.specs.declared.offered.OpenPlace.{OpenPlace}
use Rattle.world_model.specs.declared.offered.Offered.{Offered}
use Rattle.world_model.specs.Hub.{Hub, least, places, new_hub, offer, want_control, settle, hear_reply, open_with}
use Rattle.world_model.specs.Hub.{without, hear_status, abandoned_place, give_up, want_status}
use Rattle.world_model.specs.Hub.{hear_quiet}
use Rattle.world_model.specs.Hub.{is_waiting, some_waited}
use Rattle.world_model.specs.Sends.{Next, first_send, wanted_or_first, next_send}
use Rattle.world_model.specs.Facts.{has, AreRising}
use Rattle.reliable_engine.specs.Answers.{IsQuiet, NamesOpenPlace, hub_next}
use Rattle.reliable_engine.specs.Events.{HubEvent, Offer, Status, Reply, Quiet, Send, HandOut, HandOutLate}
use Rattle.reliable_engine.specs.Events.{after_event}
use Rattle.reliable_engine.specs.Events.{after_events}
use Rattle.reliable_engine.specs.Events.{IsAllowed, AreAllowed, SettlesAlone, IsAtRest, quiets, IsOutOfRounds}
use Rattle.reliable_engine.specs.Events.{SettleNone, SettlesNone}
use Rattle.world_model.proofs.Flushing.{quiet_cases, reply_cases, status_cases}
use Rattle.world_model.proofs.Hubs.{places_without}
use Rattle.world_model.proofs.Lists.{either}
use Rattle.world_model.proofs.Places.{has_from, less}
use Rattle.reliable_engine.proofs.Places.{open_once}
use Rattle.reliable_engine.proofs.Keeping.{found}
use Rattle.reliable_engine.proofs.Cases.{after_send}
use Rattle.reliable_engine.proofs.Hubs.{names, names_none, quiet_none}
use Rattle.reliable_engine.proofs.Runs.{IsHub, not_open, same_rounds}

-- ---- a reply

gone_here : (place from past : ℕ) (ps : List ℕ) → AreRising from past ps → has place (less place ps) ≡ false
gone_here place from past [] r = refl
gone_here place from past (p ∷ ps) r = elim (eqb_tells p place) [
  | inl here ↦
      let e : less place (p ∷ ps) ≡ ps = rw here.0 refl in
      ap (has place) e ∙ not_open (has place ps) (λ there.
      let later = has_from place (p + 1) past ps r.1 there in absurd (omega (arith, here.1)))
  | inr apart ↦
      let e : less place (p ∷ ps) ≡ p ∷ less place ps = rw apart.0 refl in
      let f : has place (p ∷ less place ps) ≡ has place (less place ps) = rw apart.0 refl in
      ap (has place) e ∙ (f ∙ gone_here place (p + 1) past ps r.1)
]

stays_less : (place other : ℕ) (ps : List ℕ) → other ≢ place → has place ps ≡ true → has place (less other ps) ≡ true
stays_less place other [] apart there = there
stays_less place other (p ∷ ps) apart there = elim (eqb_tells p other) [
  | inl this ↦
      let e : less other (p ∷ ps) ≡ ps = rw this.0 refl in
      elim (eqb_tells p place) [
        | inl here ↦ absurd (apart (sym this.1 ∙ here.1))
        | inr away ↦
            let f : has place (p ∷ ps) ≡ has place ps = rw away.0 refl in
            ap (has place) e ∙ (sym f ∙ there)
      ]
  | inr that ↦
      let e : less other (p ∷ ps) ≡ p ∷ less other ps = rw that.0 refl in
      elim (eqb_tells p place) [
        | inl here ↦ ap (has place) e ∙ rw here.0 refl
        | inr away ↦
            let f : has place (p ∷ ps) ≡ has place ps = rw away.0 refl in
            let g : has place (p ∷ less other ps) ≡ has place (less other ps) = rw away.0 refl in
            ap (has place) e ∙ (g ∙ stays_less place other ps apart (sym f ∙ there))
      ]
]

alone_none : (h : Hub) (id : ℕ) (words : List ℕ) → open_with h.first id h.open_places ≡ None → SettlesAlone h id words
alone_none h id words none =
    let same : hear_reply h id words ≡ h = ap (settle h words) none in
    record {
      closed = λ place there named. absurd (names_none h id none
          (record { place = place; open_there = there; identifier = named }));
      others = λ place there other. ap (λ (x : Hub). has place (places x.open_places)) same ∙ there;
      stray = λ _. same;
    }

alone_some : (h : Hub) (id : ℕ) (words : List ℕ) (o : OpenPlace) → IsIdentifier h.first → IsHub h
    → open_with h.first id h.open_places ≡ Some o → SettlesAlone h id words
alone_some h id words o first is told =
    let f = found h.first id h.open_places o told in
    let ps = places h.open_places in
    let after : places (hear_reply h id words).open_places ≡ less o.place ps =
    ap (λ (r : Option OpenPlace). places (settle h words r).open_places) told
    ∙ places_without o.place h.open_places in
    record {
      closed = λ place there named. λ still.
          let same : place ≡ o.place = open_once h.first h.window
          (length h.sent) place o.place ps first is there f.gone.there
          (named ∙ sym f.named) in
          let gone : has place (less place ps) ≡ false = gone_here place (least ps (length h.sent + 1))
          (length h.sent + 1) ps is.rising in
          let here : has place (less o.place ps) ≡ true = sym (ap (has place) after) ∙ still in
          let e : has place (less place ps) ≡ true = ap (λ (x : ℕ). has place (less x ps)) same ∙ here in
          absurd (let bad = sym gone ∙ e in cc);
      others = λ place there other.
          ap (has place) after ∙ stays_less place o.place ps
          (λ same. other (ap (identifier_at h.first) (sym same) ∙ f.named)) there;
      stray = λ stray. absurd (stray (record { place = o.place; open_there = f.gone.there; identifier = f.named }));
    }

pub settles_alone : (h : Hub) (id : ℕ) (words : List ℕ) → IsIdentifier h.first → IsHub h → SettlesAlone h id words
settles_alone h id words first is =
    let found_or = open_with h.first id h.open_places in
    elim found_or as (λ r. found_or ≡ r → SettlesAlone h id words) [
      | None ↦ λ none. alone_none h id words none
      | Some o ↦ λ told. alone_some h id words o first is told
    ] refl

-- ---- a give-up

none_waited : (os : List OpenPlace) → some_waited (map abandoned_place os) ≡ false
none_waited [] = refl
none_waited (o ∷ os) = none_waited os

all_quiet : (os : List OpenPlace) → AllByRecursion IsQuiet (map abandoned_place os)
all_quiet [] = tt
all_quiet (o ∷ os) = (record { no_resend = refl; no_control = refl }, all_quiet os)

pub give_up_rests : (h : Hub) → IsAtRest (give_up h)
give_up_rests h = record {
  queue = refl;
  waited = none_waited h.open_places;
  round = refl;
  status = refl;
  quiet = all_quiet h.open_places;
}

nothing_first : (h : Hub) (queue : List Offered) → queue ≡ [] → first_send h queue ≡ None
nothing_first h queue empty = ap (first_send h) empty

pub rest_sends : (h : Hub) → IsAtRest h → next_send h ≡ None
rest_sends h is =
    let none = quiet_none h.first h.open_places is.quiet in
    either (λ (r : Option Next). r ≡ None) h.status_wanted _ _
    (λ wanted. absurd (let bad = sym is.status ∙ wanted in cc))
    (λ _. ap (wanted_or_first h) none ∙ nothing_first h h.queue is.queue)

pub rest_waits : (h : Hub) → IsAtRest h → is_waiting h ≡ false
rest_waits h is = rw (is.queue, is.waited) refl

all_without : (P : OpenPlace → Type 0) (place : ℕ) (os : List OpenPlace) → AllByRecursion P os
    → AllByRecursion P (without place os)
all_without P place [] all = all
all_without P place (o ∷ os) all = either (AllByRecursion P) (o.place == place) os (o ∷ without place os)
    (λ _. all.1) (λ _. (all.0, all_without P place os all.1))

or_left : (a b : Bool) → (a || b) ≡ false → a ≡ false
or_left true b e = absurd (cc)
or_left false b e = refl

or_right : (a b : Bool) → (a || b) ≡ false → b ≡ false
or_right true b e = absurd (cc)
or_right false b e = e

waited_without : (place : ℕ) (os : List OpenPlace) → some_waited os ≡ false → some_waited (without place os) ≡ false
waited_without place [] e = e
waited_without place (o ∷ os) e = either (λ (ps : List OpenPlace). some_waited ps ≡ false) (o.place == place) os
    (o ∷ without place os)
    (λ _. or_right o.waited (some_waited os) e)
    (λ _. let left = or_left o.waited (some_waited os) e in
    let right = waited_without place os (or_right o.waited (some_waited os) e) in rw left right)

-- at rest since the give-up
abbrev pub RestsAfter : Hub → Type 0
RestsAfter h = h.gave_up ≡ true → IsAtRest h

settle_rests : (h : Hub) (words : List ℕ) (r : Option OpenPlace) → RestsAfter h → RestsAfter (settle h words r)
settle_rests h words None rest = rest
settle_rests h words (Some o) rest = λ gave.
    let is = rest gave in
    record {
      queue = is.queue;
      waited = waited_without o.place h.open_places is.waited;
      round = refl;
      status = is.status;
      quiet = all_without IsQuiet o.place h.open_places is.quiet;
    }

status_gave : (h : Hub) (next : ℕ) → (hear_status h next).gave_up ≡ h.gave_up
status_gave h next = status_cases (λ after. after.gave_up ≡ h.gave_up) h next refl (λ _. refl)

status_rest : (h : Hub) (next : ℕ) → IsAtRest h → hear_status h next ≡ h
status_rest h next is = rw is.round refl

status_rests : (h : Hub) (next : ℕ) → RestsAfter h → RestsAfter (hear_status h next)
status_rests h next rest = λ gave.
    let is = rest (sym (status_gave h next) ∙ gave) in
    subst IsAtRest (sym (status_rest h next is)) is

quiet_rests : (h : Hub) → is_waiting h ≡ true → RestsAfter h → RestsAfter (hear_quiet h)
quiet_rests h waits rest = either RestsAfter (nat_lt h.status_requests h.rounds) (want_status h) (give_up h)
    (λ _. λ gave. absurd (let bad = sym (rest_waits h (rest gave)) ∙ waits in cc))
    (λ _. λ _. give_up_rests h)

send_gave : (h : Hub) → (hub_next h (next_send h)).gave_up ≡ h.gave_up
send_gave h = after_send (λ after. after.gave_up ≡ h.gave_up) h refl refl (λ _ _. refl) (λ _ _ _ _. refl)

send_rests : (h : Hub) → RestsAfter h → RestsAfter (hub_next h (next_send h))
send_rests h rest = λ gave.
    let is = rest (sym (send_gave h) ∙ gave) in
    subst IsAtRest (sym (ap (hub_next h) (rest_sends h is))) is

event_rests : (h : Hub) (event : HubEvent) → IsAllowed h event → RestsAfter h → RestsAfter (after_event h event)
event_rests h (Offer x) can rest = λ gave. absurd (cc)
event_rests h (Status next) can rest = status_rests h next rest
event_rests h (Reply id words) can rest = settle_rests h words (open_with h.first id h.open_places) rest
event_rests h Quiet can rest = quiet_rests h can rest
event_rests h Send can rest = send_rests h rest
event_rests h HandOut can rest = λ gave. let is = rest gave in record {
  queue = is.queue;
  waited = is.waited;
  round = is.round;
  status = is.status;
  quiet = is.quiet;
}
event_rests h HandOutLate can rest = λ gave. let is = rest gave in record {
  queue = is.queue;
  waited = is.waited;
  round = is.round;
  status = is.status;
  quiet = is.quiet;
}

pub stays_at_rest : (h : Hub) (events : List HubEvent) → AreAllowed h events → RestsAfter h
    → RestsAfter (after_events h events)
stays_at_rest h [] can rest = rest
stays_at_rest h (event ∷ events) can rest =
    stays_at_rest (after_event h event) events can.1 (event_rests h event can.0 rest)

pub new_rests : (first window rounds : ℕ) → RestsAfter (new_hub first window rounds)
new_rests first window rounds = λ gave. absurd (cc)

-- ---- after a give-up

pub offer_wants : (h : Hub) (x : Offered) → h.gave_up ≡ true → (offer h x).open_places ≡ map want_control h.open_places
offer_wants h x gave = rw gave refl

pub offer_leaves : (h : Hub) (x : Offered) → h.gave_up ≡ false → (offer h x).open_places ≡ h.open_places
offer_leaves h x gave = rw gave refl

-- ---- rounds

status_rounds : (h : Hub) (next : ℕ) → (hear_status h next).status_requests ≡ h.status_requests
status_rounds h next = status_cases (λ after. after.status_requests ≡ h.status_requests) h next refl (λ _. refl)

reply_rounds : (h : Hub) (id : ℕ) (words : List ℕ) → (hear_reply h id words).status_requests ≤ h.status_requests
reply_rounds h id words = reply_cases (λ after. after.status_requests ≤ h.status_requests) h id words
    (omega arith) (λ _ _. omega arith)

send_rounds : (h : Hub) → (hub_next h (next_send h)).status_requests ≡ h.status_requests
send_rounds h = after_send (λ after. after.status_requests ≡ h.status_requests) h refl refl (λ _ _. refl)
    (λ _ _ _ _. refl)

event_rounds : (h : Hub) (event : HubEvent)
    → (after_event h event).status_requests ≤ h.status_requests + quiets (event ∷ [])
event_rounds h (Offer x) = omega arith
event_rounds h (Status next) = omega (arith, status_rounds h next)
event_rounds h (Reply id words) = omega (arith, reply_rounds h id words)
event_rounds h Quiet = quiet_cases (λ after. after.status_requests ≤ h.status_requests + 1) h
    (λ _. omega arith) (λ _. omega arith)
event_rounds h Send = omega (arith, send_rounds h)
event_rounds h HandOut = omega arith
event_rounds h HandOutLate = omega arith

quiets_more : (event : HubEvent) (events : List HubEvent)
    → quiets (event ∷ events) ≡ quiets (event ∷ []) + quiets events
quiets_more (Offer x) events = omega arith
quiets_more (Status next) events = omega arith
quiets_more (Reply id words) events = omega arith
quiets_more Quiet events = omega arith
quiets_more Send events = omega arith
quiets_more HandOut events = omega arith
quiets_more HandOutLate events = omega arith

pub rounds_counted : (h : Hub) (events : List HubEvent)
    → (after_events h events).status_requests ≤ h.status_requests + quiets events
rounds_counted h [] = omega arith
rounds_counted h (event ∷ events) =
    let one = event_rounds h event in
    let later = rounds_counted (after_event h event) events in
    let all = quiets_more event events in
    omega arith

pub quiet_ends : (h : Hub) → IsOutOfRounds h → hear_quiet h ≡ give_up h
quiet_ends h out = rw (le-ltb h.status_requests h.rounds out) refl

pub quiet_begins : (h : Hub) → h.status_requests < h.rounds → hear_quiet h ≡ want_status h
quiet_begins h more = rw (lt-ltb h.status_requests h.rounds more) refl

stray_reply : (h : Hub) (id : ℕ) (words : List ℕ) → (NamesOpenPlace h id → ⊥) → hear_reply h id words ≡ h
stray_reply h id words stray = reply_cases (λ after. after ≡ h) h id words refl
    (λ o told. absurd (stray (names h id o told)))

-- an event that settles no place begins a round where it is a quiet receive
round_begun : (h : Hub) (event : HubEvent) → SettlesNone h event
    → h.status_requests + quiets (event ∷ []) ≤ h.rounds
    → (after_event h event).status_requests ≡ h.status_requests + quiets (event ∷ [])
round_begun h (Offer x) none few = omega arith
round_begun h (Status next) none few = omega (arith, status_rounds h next)
round_begun h (Reply id words) none few =
    omega (arith, ap (λ (x : Hub). x.status_requests) (stray_reply h id words none))
round_begun h Quiet none few = ap (λ (x : Hub). x.status_requests) (quiet_begins h (omega arith))
round_begun h Send none few = omega (arith, send_rounds h)
round_begun h HandOut none few = omega arith
round_begun h HandOutLate none few = omega arith

pub rounds_begun : (h : Hub) (events : List HubEvent) → SettleNone h events
    → h.status_requests + quiets events ≤ h.rounds
    → (after_events h events).status_requests ≡ h.status_requests + quiets events
rounds_begun h [] none few = omega arith
rounds_begun h (event ∷ events) none few =
    let all = quiets_more event events in
    let one = round_begun h event none.0 (omega arith) in
    let same : (after_event h event).rounds ≡ h.rounds = same_rounds h (event ∷ []) in
    let later = rounds_begun (after_event h event) events none.1 (omega arith) in
    omega arith
