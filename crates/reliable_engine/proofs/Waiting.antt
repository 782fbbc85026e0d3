-- A status request becomes wanted only while a body waits.
use Rattle.std.proofs.Common.{◌≡◌, ◌≢◌, ◌⊎◌, Bool, true, false, List, [], ◌∷◌, refl, sym, ap, ◌∙◌, inl, inr}
use Rattle.std.specs.List.{AllByRecursion}
use Rattle.world_model.specs.Hub.{Hub, is_waiting}
use Rattle.world_model.specs.Sends.{next_send}
use Rattle.world_model.proofs.Flushing.{quiet_cases, reply_cases, status_cases}
use Rattle.reliable_engine.specs.Answers.{hub_next}
use Rattle.reliable_engine.specs.Events.{HubEvent, Offer, Status, Reply, Quiet, Send, HandOut, HandOutLate}
use Rattle.reliable_engine.specs.Events.{IsAllowed, AreAllowed}
use Rattle.reliable_engine.specs.Events.{WasAsked, after_event, after_events}
use Rattle.reliable_engine.proofs.Cases.{after_send}

-- after a send no status request is wanted
send_by : (h : Hub) (b : Bool) → h.status_wanted ≡ b → (hub_next h (next_send h)).status_wanted ≡ false
send_by h true e = rw e refl
send_by h false e = after_send (λ after. after.status_wanted ≡ false) h e refl (λ _ _. e) (λ _ _ _ _. e)

-- one is wanted because it was before, or because this is a quiet receive while a body waits
abbrev Asks : Hub → HubEvent → Type 0
Asks h event = ((h.status_wanted ≡ true) × (event ≢ Send))
    ⊎ ((event ≡ Quiet) × (is_waiting h ≡ true) × (is_waiting (after_event h event) ≡ true))

asks : (h : Hub) (event : HubEvent) → IsAllowed h event → (after_event h event).status_wanted ≡ true → Asks h event
asks h (Offer x) can asked = inl (asked, λ bad. absurd (cc))
asks h (Status next) can asked = inl (
  status_cases (λ after. after.status_wanted ≡ true → h.status_wanted ≡ true) h next (λ e. e) (λ _ e. e) asked,
  λ bad. absurd (cc),
)
asks h (Reply id words) can asked = inl (
  reply_cases (λ after. after.status_wanted ≡ true → h.status_wanted ≡ true) h id words (λ e. e) (λ _ _ e. e) asked,
  λ bad. absurd (cc),
)
asks h Quiet can asked = inr (
  refl,
  can,
  quiet_cases (λ after. after.status_wanted ≡ true → is_waiting after ≡ true) h (λ _ _. can) (λ _ bad. absurd (cc))
      asked,
)
asks h Send can asked = absurd (let none = send_by h h.status_wanted refl in let bad = sym none ∙ asked in cc)
asks h HandOut can asked = inl (asked, λ bad. absurd (cc))
asks h HandOutLate can asked = inl (asked, λ bad. absurd (cc))

pub asked_while_waiting : (h : Hub) (event : HubEvent) → IsAllowed h event → h.status_wanted ≡ false
    → (after_event h event).status_wanted ≡ true → is_waiting (after_event h event) ≡ true
asked_while_waiting h event can none asked = elim (asks h event can asked) [
  | inl before ↦ absurd (let bad = sym none ∙ before.0 in cc)
  | inr now ↦ now.2
]

asked_since : (h : Hub) (events : List HubEvent) → AreAllowed h events → (after_events h events).status_wanted ≡ true
    → ((h.status_wanted ≡ true) × AllByRecursion (λ (event : HubEvent). event ≢ Send) events) ⊎ WasAsked h events
asked_since h [] can asked = inl (asked, tt)
asked_since h (event ∷ events) can asked = elim (asked_since (after_event h event) events can.1 asked) [
  | inl now ↦ elim (asks h event can.0 now.0) [
    | inl before ↦ inl (before.0, (before.1, now.1))
    | inr here ↦ inr (record {
      before = [];
      since = events;
      all = ap (λ (e : HubEvent). e ∷ events) here.0;
      waited = here.1;
      not_sent = now.1;
    })
  ]
  | inr later ↦ inr (record {
    before = event ∷ later.before;
    since = later.since;
    all = ap (λ (es : List HubEvent). event ∷ es) later.all;
    waited = later.waited;
    not_sent = later.not_sent;
  })
]

pub was_asked : (h : Hub) (events : List HubEvent) → AreAllowed h events → h.status_wanted ≡ false
    → (after_events h events).status_wanted ≡ true → WasAsked h events
was_asked h events can none asked = elim (asked_since h events can asked) [
  | inl before ↦ absurd (let bad = sym none ∙ before.0 in cc)
  | inr is ↦ is
]
