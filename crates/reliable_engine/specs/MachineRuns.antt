-- Runs of the hub's machine over a link, and what passes over the link in them. A send may stand anywhere between two
-- receives, so a client's ask that sends at once and one that leaves it to the next receive are both runs. Profile.
use Rattle.std.specs.Prelude.{◌≡◌, ◌⊎◌, ℕ, ◌≤◌, true, List, [], ◌∷◌, ◌++◌, Option, Some, None}
use Rattle.packet_ids.specs.Identifier.{IsIdentifier, identifier_at}
use Rattle.world_model.specs.declared.offered.Offered.{Offered}
use Rattle.world_model.specs.declared.offered.Fate.{Fate}
use Rattle.world_model.specs.declared.offered.Fate.TheVariants.{Replied, TimedOut, Unsent}
use Rattle.world_model.specs.Messages.{ToHub, StatusReply, Reply, to_hub}
use Rattle.world_model.specs.Hub.{Hub, hear_quiet, is_waiting, offer, take_message}
use Rattle.world_model.specs.Sends.{Next, bytes_to_send, next_send}
use Rattle.world_model.specs.Facts.{AreSendable, IsTagged, has}
use Rattle.world_model.specs.declared.settings.TheConstants.{MAX_WINDOW}
use Rattle.reliable_engine.specs.Answers.{IsOpen, hub_next}
use Rattle.reliable_engine.specs.Events as hub_events
use Rattle.reliable_engine.specs.Events.{HubEvent, IsOutOfRounds}
use Rattle.reliable_engine.specs.ToldFates.{waited_places}
use Rattle.reliable_engine.specs.Traffic.{Passed}
use Rattle.reliable_engine.specs.Traffic as passed

-- a body is offered under a tag, the hub's next send is sent, a datagram of these bytes is heard, or a receive is quiet
pub data RunEvent : Type 0 where
  Offer : ℕ → List ℕ → RunEvent
  Send : RunEvent
  Heard : List ℕ → RunEvent
  Quiet : RunEvent

abbrev pub run_event : Hub → RunEvent → Hub
run_event hub (Offer tag body) = offer hub (record { tag = tag; body = body })
run_event hub Send = hub_next hub (next_send hub)
run_event hub (Heard bytes) = take_message hub (to_hub bytes)
run_event hub Quiet = hear_quiet hub

-- the hub after all of them
abbrev pub run_events : Hub → List RunEvent → Hub
run_events hub [] = hub
run_events hub (event ∷ events) = run_events (run_event hub event) events

-- what a send puts on the link, and what passes in an event
abbrev pub passed_next : Option Next → List Passed
passed_next None = []
passed_next (Some next) = passed.Sent (bytes_to_send next.hub next.send) ∷ []

abbrev pub passed_in : Hub → RunEvent → List Passed
passed_in hub (Offer tag body) = []
passed_in hub Send = passed_next (next_send hub)
passed_in hub (Heard bytes) = passed.Got bytes ∷ []
passed_in hub Quiet = passed.Quiet ∷ []

-- what passes in all of them, in order
abbrev pub traffic_of : Hub → List RunEvent → List Passed
traffic_of hub [] = []
traffic_of hub (event ∷ events) = passed_in hub event ++ traffic_of (run_event hub event) events

-- all is sent, and a body that was offered has no fate yet
pub record ListensInVain (hub : Hub) : Type 0 where
  pub all_sent : next_send hub ≡ None
  pub waits : is_waiting hub ≡ true

-- A hub sends where it has something to send. It listens when all is sent, and a receive is quiet only while a body
-- has no fate.
abbrev pub MayCome : Hub → RunEvent → Type 0
MayCome hub (Offer tag body) = Unit {0}
MayCome hub Send = (next : Next) × (next_send hub ≡ Some next)
MayCome hub (Heard bytes) = next_send hub ≡ None
MayCome hub Quiet = ListensInVain hub

abbrev pub MayAllCome : Hub → List RunEvent → Type 0
MayAllCome hub [] = Unit {0}
MayAllCome hub (event ∷ events) = MayCome hub event × MayAllCome (run_event hub event) events

-- These events are a run that begins with this hub: this passes over the link, this hub is there at the end, and so it
-- has these fates, where none was handed out.
pub record IsMachineRun (hub : Hub) (events : List RunEvent) (traffic : List Passed) (end : Hub)
    (fates : List (ℕ × Fate)) : Type 0 where
  pub may_come : MayAllCome hub events
  pub traffic_is : traffic_of hub events ≡ traffic
  pub end_is : run_events hub events ≡ end
  pub fates_are : end.fates ≡ fates

-- the bodies that are offered, in order
abbrev pub offers_in : List RunEvent → List Offered
offers_in [] = []
offers_in (Offer tag body ∷ events) = record { tag = tag; body = body } ∷ offers_in events
offers_in (Send ∷ events) = offers_in events
offers_in (Heard bytes ∷ events) = offers_in events
offers_in (Quiet ∷ events) = offers_in events

-- A run of a hub that knows its board and has sent nothing: the identifier and the window are in their ranges, and each
-- body that is offered has a spelling.
pub record IsFreshRun (first window : ℕ) (events : List RunEvent) : Type 0 where
  pub identifier : IsIdentifier first
  pub some_window : 1 ≤ window
  pub window_in_range : window ≤ MAX_WINDOW
  pub sendable : AreSendable (offers_in events)

-- ---- which events bring a fate

-- a place that was sent, whose body has no fate yet
abbrev pub IsWaited : Hub → ℕ → Type 0
IsWaited hub place = has place (waited_places hub.open_places) ≡ true

-- the reply of this place, by its identifier, is heard while its body, under this tag, has no fate
pub record HearsReply (hub : Hub) (bytes : List ℕ) (tag place : ℕ) (words : List ℕ) : Type 0 where
  pub reply : to_hub bytes ≡ Some (Reply (identifier_at hub.first place) words)
  pub waited : IsWaited hub place
  pub body : IsTagged hub.sent tag place

-- the last round ends while the body at this place, under this tag, has no fate
pub record EndsWaiting (hub : Hub) (tag place rounds : ℕ) : Type 0 where
  pub out : IsOutOfRounds hub
  pub rounds_are : rounds ≡ hub.rounds
  pub waited : IsWaited hub place
  pub body : IsTagged hub.sent tag place

-- one of the bodies has this tag
abbrev pub HasTag : ℕ → List Offered → Type 0
HasTag tag [] = ⊥
HasTag tag (offered ∷ later) = (offered.tag ≡ tag) ⊎ HasTag tag later

-- the last round ends while a body under this tag was not sent
pub record EndsUnsent (hub : Hub) (tag : ℕ) : Type 0 where
  pub out : IsOutOfRounds hub
  pub queued : HasTag tag hub.queue

abbrev pub ReplyBrings : Hub → List ℕ → ℕ × Fate → Type 0
ReplyBrings hub bytes (tag, Replied place words) = HearsReply hub bytes tag place words
ReplyBrings hub bytes (tag, TimedOut place rounds) = ⊥
ReplyBrings hub bytes (tag, Unsent) = ⊥

abbrev pub QuietBrings : Hub → ℕ × Fate → Type 0
QuietBrings hub (tag, Replied place words) = ⊥
QuietBrings hub (tag, TimedOut place rounds) = EndsWaiting hub tag place rounds
QuietBrings hub (tag, Unsent) = EndsUnsent hub tag

abbrev pub Brings : Hub → RunEvent → ℕ × Fate → Type 0
Brings hub (Offer tag body) fate = ⊥
Brings hub Send fate = ⊥
Brings hub (Heard bytes) fate = ReplyBrings hub bytes fate
Brings hub Quiet fate = QuietBrings hub fate

-- one of the events brings this fate
abbrev pub IsBrought : Hub → List RunEvent → ℕ × Fate → Type 0
IsBrought hub [] fate = ⊥
IsBrought hub (event ∷ events) fate = Brings hub event fate ⊎ IsBrought (run_event hub event) events fate

-- ---- which events bring a late answer

-- the reply of this place, by its identifier, is heard while the place is open and its body has a fate
pub record HearsLate (hub : Hub) (bytes : List ℕ) (place : ℕ) (words : List ℕ) : Type 0 where
  pub reply : to_hub bytes ≡ Some (Reply (identifier_at hub.first place) words)
  pub still_open : IsOpen hub place
  pub has_fate : ¬ IsWaited hub place

abbrev pub BringsLate : Hub → RunEvent → ℕ → List ℕ → Type 0
BringsLate hub (Offer tag body) place words = ⊥
BringsLate hub Send place words = ⊥
BringsLate hub (Heard bytes) place words = HearsLate hub bytes place words
BringsLate hub Quiet place words = ⊥

-- one of the events brings this late answer
abbrev pub IsBroughtLate : Hub → List RunEvent → ℕ → List ℕ → Type 0
IsBroughtLate hub [] place words = ⊥
IsBroughtLate hub (event ∷ events) place words =
    BringsLate hub event place words ⊎ IsBroughtLate (run_event hub event) events place words

-- one of the late answers is that of this place, and these are its words
abbrev pub HasLate : ℕ → List ℕ → List (ℕ × List ℕ) → Type 0
HasLate place words [] = ⊥
HasLate place words (late ∷ lates) = ((place, words) ≡ late) ⊎ HasLate place words lates

-- ---- the events of an engine

-- what an engine is told where a datagram is heard
abbrev pub told_by : Option ToHub → List HubEvent
told_by None = []
told_by (Some (StatusReply mtu buffers next)) = hub_events.Status next ∷ []
told_by (Some (Reply id words)) = hub_events.Reply id words ∷ []

-- what an engine is told and asked in a run in which it hands nothing out
abbrev pub engine_events : List RunEvent → List HubEvent
engine_events [] = []
engine_events (Offer tag body ∷ events) =
    hub_events.Offer (record { tag = tag; body = body }) ∷ engine_events events
engine_events (Send ∷ events) = hub_events.Send ∷ engine_events events
engine_events (Heard bytes ∷ events) = told_by (to_hub bytes) ++ engine_events events
engine_events (Quiet ∷ events) = hub_events.Quiet ∷ engine_events events
