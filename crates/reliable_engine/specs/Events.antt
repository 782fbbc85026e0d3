-- Lists of events: whatever an engine is told and asked, in any order. Profile.
use Rattle.std.specs.Prelude.{◌≡◌, ◌≢◌, ◌⊎◌, ℕ, ◌+◌, ◌≤◌, true, false, List, [], ◌∷◌, ◌++◌, length, map}
use Rattle.std.specs.List.{AllByRecursion}
use Rattle.packet_ids.specs.Identifier.{identifier_at}
use Rattle.world_model.specs.declared.offered.Offered.{Offered}
use Rattle.world_model.specs.declared.offered.Fate.{Fate}
use Rattle.world_model.specs.Hub.{Hub, offer, hear_status, hear_reply, hear_quiet, is_waiting, low, recover}
use Rattle.world_model.specs.Hub.{some_waited}
use Rattle.world_model.specs.Sends.{next_send}
use Rattle.reliable_engine.specs.Answers.{IsOpen, IsQuiet, NamesOpenPlace, TellsPlace, hub_next, told_first}
use Rattle.reliable_engine.specs.Answers.{told_first_late}

-- a body is offered; a status reply with this identifier, the reply with this identifier, or nothing at all is heard;
-- the next send is taken; the first fate or the first late answer is handed out
pub data HubEvent : Type 0 where
  Offer : Offered → HubEvent
  Status : ℕ → HubEvent
  Reply : ℕ → List ℕ → HubEvent
  Quiet : HubEvent
  Send : HubEvent
  HandOut : HubEvent
  HandOutLate : HubEvent

abbrev pub after_event : Hub → HubEvent → Hub
after_event hub (Offer offered) = offer hub offered
after_event hub (Status next) = hear_status hub next
after_event hub (Reply id words) = hear_reply hub id words
after_event hub Quiet = hear_quiet hub
after_event hub Send = hub_next hub (next_send hub)
after_event hub HandOut = told_first hub
after_event hub HandOutLate = told_first_late hub

abbrev pub after_events : Hub → List HubEvent → Hub
after_events hub [] = hub
after_events hub (event ∷ events) = after_events (after_event hub event) events

-- a quiet receive is noticed only while a body has no fate
abbrev pub IsAllowed : Hub → HubEvent → Type 0
IsAllowed hub (Offer offered) = Unit {0}
IsAllowed hub (Status next) = Unit {0}
IsAllowed hub (Reply id words) = Unit {0}
IsAllowed hub Quiet = is_waiting hub ≡ true
IsAllowed hub Send = Unit {0}
IsAllowed hub HandOut = Unit {0}
IsAllowed hub HandOutLate = Unit {0}

abbrev pub AreAllowed : Hub → List HubEvent → Type 0
AreAllowed hub [] = Unit {0}
AreAllowed hub (event ∷ events) = IsAllowed hub event × AreAllowed (after_event hub event) events

-- the places from the lowest open one to the last one sent are no more than the window, and the open places are among
-- them
pub record IsInWindow (hub : Hub) : Type 0 where
  pub no_more : length hub.sent + 1 ≤ low hub + hub.window
  pub from_low : (place : ℕ) → IsOpen hub place → low hub ≤ place
  pub up_to_last : (place : ℕ) → IsOpen hub place → place ≤ length hub.sent
  pub one_named : (place other : ℕ) → IsOpen hub place → IsOpen hub other
      → identifier_at hub.first place ≡ identifier_at hub.first other → place ≡ other

-- A reply closes the open place with its identifier and no other. Where no open place has it, nothing changes.
pub record SettlesAlone (hub : Hub) (id : ℕ) (words : List ℕ) : Type 0 where
  pub closed : (place : ℕ) → IsOpen hub place → identifier_at hub.first place ≡ id
      → ¬ IsOpen (hear_reply hub id words) place
  pub others : (place : ℕ) → IsOpen hub place → identifier_at hub.first place ≢ id
      → IsOpen (hear_reply hub id words) place
  pub stray : ¬ NamesOpenPlace hub id → hear_reply hub id words ≡ hub

-- where a status reply tells a place, each open place is recovered by it
abbrev pub IfTold : Hub → ℕ → Type 0
IfTold hub next = (told : TellsPlace hub next)
    → hear_status hub next ≡ record hub { open_places = map (recover told.place) hub.open_places }

-- one of the events was a quiet receive while a body had no fate, and nothing was sent since
pub record WasAsked (hub : Hub) (events : List HubEvent) : Type 0 where
  pub before : List HubEvent
  pub since : List HubEvent
  pub all : events ≡ before ++ Quiet ∷ since
  pub waited : is_waiting (after_events hub before) ≡ true
  pub not_sent : AllByRecursion (λ (event : HubEvent). event ≢ Send) since

-- an event is not the reply to an open place
abbrev pub SettlesNone : Hub → HubEvent → Type 0
SettlesNone hub (Offer offered) = Unit {0}
SettlesNone hub (Status next) = Unit {0}
SettlesNone hub (Reply id words) = ¬ NamesOpenPlace hub id
SettlesNone hub Quiet = Unit {0}
SettlesNone hub Send = Unit {0}
SettlesNone hub HandOut = Unit {0}
SettlesNone hub HandOutLate = Unit {0}

-- no place is settled by these events
abbrev pub SettleNone : Hub → List HubEvent → Type 0
SettleNone hub [] = Unit {0}
SettleNone hub (event ∷ events) = SettlesNone hub event × SettleNone (after_event hub event) events

-- nothing is queued, waited for or to be sent, and no round is under way
pub record IsAtRest (hub : Hub) : Type 0 where
  pub queue : hub.queue ≡ []
  pub waited : some_waited hub.open_places ≡ false
  pub round : hub.status_requests ≡ 0
  pub status : hub.status_wanted ≡ false
  pub quiet : AllByRecursion IsQuiet hub.open_places

-- how many of the events are quiet receives
abbrev pub quiets : List HubEvent → ℕ
quiets [] = 0
quiets (Offer offered ∷ events) = quiets events
quiets (Status next ∷ events) = quiets events
quiets (Reply id words ∷ events) = quiets events
quiets (Quiet ∷ events) = quiets events + 1
quiets (Send ∷ events) = quiets events
quiets (HandOut ∷ events) = quiets events
quiets (HandOutLate ∷ events) = quiets events

-- how many of the events hand a fate out
abbrev pub handouts : List HubEvent → ℕ
handouts [] = 0
handouts (Offer offered ∷ events) = handouts events
handouts (Status next ∷ events) = handouts events
handouts (Reply id words ∷ events) = handouts events
handouts (Quiet ∷ events) = handouts events
handouts (Send ∷ events) = handouts events
handouts (HandOut ∷ events) = handouts events + 1
handouts (HandOutLate ∷ events) = handouts events

-- a fate is one of these
abbrev pub IsAmong : ℕ × Fate → List (ℕ × Fate) → Type 0
IsAmong fate [] = ⊥
IsAmong fate (other ∷ fates) = (fate ≡ other) ⊎ IsAmong fate fates

-- the next quiet receive ends the last round
abbrev pub IsOutOfRounds : Hub → Type 0
IsOutOfRounds hub = hub.rounds ≤ hub.status_requests
