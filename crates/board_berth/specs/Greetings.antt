-- A greeting of a board: what it came to, and what holds of it while it is the present one and once it is past. Profile.
use Rattle.std.specs.Prelude.{◌≡◌, ℕ, ◌*◌, ◌+◌, ◌≤◌, Bool, true, List, [], Option, Some, None, IfSome}
use Rattle.ipb_base.specs.Numbers.{most_others, payload_of}
use Rattle.world_model.specs.Settings.{Limits}
use Rattle.links.specs.Receives.{first_status, receives_in}
use Rattle.links.specs.declared.link.Link.{Ghosts}
use Rattle.lane_record.specs.declared.item.Item.{Item}
use Rattle.lane_record.specs.Bounds.{HasReached}
use Rattle.lane_tables.specs.Taken.{IsAllTaken}
use Rattle.hub_lane.specs.Calls.{has_stopped}
use Rattle.hub_lane.specs.Greeting.{CanBegin, EndsWithDatagram}
use Rattle.hub_lane.specs.Heard.{HasHeard, HasListened}
use Rattle.hub_lane.specs.Lanes.{IsGreeted, IsLane, LaneState, new_lane, with_link}
use Rattle.hub_lane.specs.Links.{ShowsTheSame}
use Rattle.hub_lane.specs.Run.{AreVainRounds, HasRun, IsGreetingCutOff}
use Rattle.board_berth.specs.declared.answers.Begun.{Begun}
use Rattle.board_berth.specs.declared.answers.Begun.TheVariants as begins
use Rattle.board_berth.specs.declared.greeting.Greeting.{Greeting}
use Rattle.board_berth.specs.declared.greeting.Greeting.TheVariants.{Answered, Silent, Down}

-- ---- what stands there

-- the link of a greeting, alone or with the lane
abbrev pub link_in : {L : Type 0} → Greeting L → L
link_in (Answered by lane) = lane.link
link_in (Silent link) = link
link_in (Down link) = link

-- its number among the links of its rack
abbrev pub number_in : {L : Type 0} → (L → ℕ) → Greeting L → ℕ
number_in numbers (Answered by lane) = lane.number
number_in numbers (Silent link) = numbers link
number_in numbers (Down link) = numbers link

-- the entries of its lane; none where the board did not answer
abbrev pub items_in : {L : Type 0} → Greeting L → List Item
items_in (Answered by lane) = lane.items
items_in (Silent link) = []
items_in (Down link) = []

-- the words of the longest packet of a board that answered
abbrev pub payload_in : {L : Type 0} → Greeting L → Option ℕ
payload_in (Answered by lane) = Some (payload_of lane.status.mtu)
payload_in (Silent link) = None
payload_in (Down link) = None

-- nothing is sent or received any more
abbrev pub has_stopped_in : {L : Type 0} → Greeting L → Bool
has_stopped_in (Answered by lane) = has_stopped lane
has_stopped_in (Silent link) = true
has_stopped_in (Down link) = true

-- what it came to
abbrev pub came_to : {L : Type 0} → Greeting L → Begun
came_to (Answered by lane) = begins.Answered
came_to (Silent link) = begins.Silent
came_to (Down link) = begins.Down

-- so much holds of the lane, where the board answered
abbrev pub IfAnswered : {L : Type 0} → (LaneState L → Type 0) → Greeting L → Type 0
IfAnswered holds (Answered by lane) = holds lane
IfAnswered holds (Silent link) = Unit {0}
IfAnswered holds (Down link) = Unit {0}

-- nothing of it is open: each body that was planned was asked, and what became of it was taken
abbrev pub IsOver : {L : Type 0} → Greeting L → Type 0
IsOver greeting = IfAnswered (λ lane. IsAllTaken lane.items) greeting

-- ---- in vain

-- The board of this link told no status: all that was sent to it is one status request in each round, and each round
-- ended with a quiet receive or as many datagrams of no use as a round hears. Over a link that tells it executed nothing.
pub record IsSilent {L : Type 0} (seen : Ghosts L) (settings : Limits) (number : ℕ) (link : L) : Type 0 where
  pub of_rack : seen.number link ≡ number
  pub asked : AreVainRounds settings.rounds (seen.traffic link)
  pub untold : first_status (receives_in (seen.traffic link)) ≡ None
  pub waited : most_others * settings.rounds ≤ most_others * seen.quiets link + seen.gots link
  pub held : IfSome (seen.telling link) (λ _. (settings.rounds ≤ seen.quiets link) × (settings.rounds ≤ seen.held link))
  pub fresh : IfSome (seen.telling link) (CanBegin settings)

-- This link failed before its board told a status: all that was sent is one status request in each round, in the last one
-- perhaps none. Over a link that tells the board executed nothing.
pub record IsDown {L : Type 0} (seen : Ghosts L) (settings : Limits) (number : ℕ) (link : L) : Type 0 where
  pub of_rack : seen.number link ≡ number
  pub asked : IsGreetingCutOff settings.rounds (seen.traffic link)
  pub untold : first_status (receives_in (seen.traffic link)) ≡ None
  pub failed : 1 ≤ seen.faults link
  pub fresh : IfSome (seen.telling link) (CanBegin settings)

-- ---- answered

-- a lane with these settings, over a link with this number
pub record IsLaneOf {L : Type 0} (settings : Limits) (number : ℕ) (lane : LaneState L) : Type 0 where
  pub same_settings : lane.settings ≡ settings
  pub same_number : lane.number ≡ number

-- All that a lane keeps at the exit of every call, over what its link shows. By `ran` what passed over the link is a
-- greeting, and then the machine's run from a hub that has sent nothing: so the lane began as a new one over an unused
-- link.
pub record KeepsAll {L : Type 0} (seen : Ghosts L) (lane : LaneState L) : Type 0 where
  pub of_link : seen.number lane.link ≡ lane.number
  pub sound : IsLane lane.settings lane.status lane.hub lane.items lane.outcomes lane.lates lane.give_ups lane.down
      lane.spent (seen.telling lane.link) (seen.faults lane.link) (seen.quiets lane.link)
  pub paid : IfSome (seen.telling lane.link)
      (λ _. HasReached (lane.settings.rounds * lane.give_ups) (seen.held lane.link))
  pub heard : HasHeard lane.outcomes (seen.gots lane.link)
  pub listened : HasListened lane.status lane.hub lane.outcomes lane.lates lane.give_ups
      (receives_in (seen.traffic lane.link))
  pub ran : HasRun lane.settings lane.status lane.hub lane.items lane.outcomes lane.lates lane.down lane.spent lane.run
      (seen.traffic lane.link)

abbrev pub KeepsAllIn : {L : Type 0} → Ghosts L → Greeting L → Type 0
KeepsAllIn seen greeting = IfAnswered (KeepsAll seen) greeting

-- a lane that was just greeted for this client
pub record IsNewLane {L : Type 0} (seen : Ghosts L) (settings : Limits) (number client by : ℕ) (lane : LaneState L)
    : Type 0 where
  pub for_client : by ≡ client
  pub new : lane ≡ new_lane number lane.link settings lane.status
  pub greeted : IfSome (seen.telling lane.link) (IsGreeted settings lane.status)
  pub told : EndsWithDatagram seen lane.status lane.link

-- ---- the present greeting, and those that are past

-- A board was just greeted for this client.
abbrev pub IsNew : {L : Type 0} → Ghosts L → Limits → ℕ → ℕ → Greeting L → Type 0
IsNew seen settings number client (Answered by lane) = IsNewLane seen settings number client by lane
IsNew seen settings number client (Silent link) = IsSilent seen settings number link
IsNew seen settings number client (Down link) = IsDown seen settings number link

-- what is kept of the present greeting beside what a lane keeps itself
abbrev pub IsMet : {L : Type 0} → Ghosts L → Limits → ℕ → Greeting L → Type 0
IsMet seen settings number (Answered by lane) = IsLaneOf settings number lane
IsMet seen settings number (Silent link) = IsSilent seen settings number link
IsMet seen settings number (Down link) = IsDown seen settings number link

-- The present greeting.
pub record IsPresent {L : Type 0} (seen : Ghosts L) (settings : Limits) (number : ℕ) (greeting : Greeting L)
    : Type 0 where
  pub met : IsMet seen settings number greeting
  pub keeps : KeepsAllIn seen greeting

-- A past greeting: nothing of it was open when it ended.
pub record IsPast {L : Type 0} (seen : Ghosts L) (settings : Limits) (number : ℕ) (greeting : Greeting L)
    : Type 0 where
  pub present : IsPresent seen settings number greeting
  pub over : IsOver greeting

-- ---- what is shown

abbrev pub IsAnsweredBy : {L : Type 0} → ℕ → (LaneState L → Type 0) → Greeting L → Type 0
IsAnsweredBy client holds (Answered by lane) = (by ≡ client) × holds lane
IsAnsweredBy client holds (Silent link) = ⊥
IsAnsweredBy client holds (Down link) = ⊥

abbrev pub IsSilentWith : {L : Type 0} → (L → Type 0) → Greeting L → Type 0
IsSilentWith holds (Answered by lane) = ⊥
IsSilentWith holds (Silent link) = holds link
IsSilentWith holds (Down link) = ⊥

abbrev pub IsDownWith : {L : Type 0} → (L → Type 0) → Greeting L → Type 0
IsDownWith holds (Answered by lane) = ⊥
IsDownWith holds (Silent link) = ⊥
IsDownWith holds (Down link) = holds link

-- the same lane over a link of which nothing that contracts see changed
pub record IsSameLane {L : Type 0} (seen : Ghosts L) (old new : LaneState L) : Type 0 where
  pub lane : new ≡ with_link old new.link
  pub shows : ShowsTheSame seen old.link new.link

-- the same greeting, of whose link nothing that contracts see changed
abbrev pub IsSameGreeting : {L : Type 0} → Ghosts L → Greeting L → Greeting L → Type 0
IsSameGreeting seen (Answered by lane) new = IsAnsweredBy by (IsSameLane seen lane) new
IsSameGreeting seen (Silent link) new = IsSilentWith (ShowsTheSame seen link) new
IsSameGreeting seen (Down link) new = IsDownWith (ShowsTheSame seen link) new
