-- A lane as contracts see it, and what holds of it at the exit of every call. Profile.
use Rattle.std.specs.Prelude.{◌≡◌, ℕ, ◌+◌, ◌≤◌, min, Bool, true, false, ◌||◌, if◌then◌else◌, List, [], ◌∷◌, ◌++◌}
use Rattle.std.specs.Prelude.{length}
use Rattle.std.specs.Prelude.{Option, Some, None, IfSome}
use Rattle.std.specs.List.{AllByRecursion}
use Rattle.ipb_base.specs.Numbers.{payload_of}
use Rattle.transaction_codec.specs.Answer.{reply_room}
use Rattle.status_packet.specs.declared.status.Status.{Status}
use Rattle.status_packet.specs.Range.{IsBufferCount, IsMtu}
use Rattle.packet_ids.specs.Identifier.{IsIdentifier}
use Rattle.board_bus.specs.Cells.{CellMap}
use Rattle.world_model.specs.Board.{Board}
use Rattle.world_model.specs.Hub.{Hub, IsDrained, is_waiting, new_hub, places}
use Rattle.world_model.specs.Facts.{HasBodies, IsStart, IsWindow}
use Rattle.world_model.specs.Settings.{AreLimits, Limits}
use Rattle.reliable_engine.specs.MachineRuns.{RunEvent}
use Rattle.links.specs.Telling.{Telling}
use Rattle.lane_record.specs.declared.outcome.Outcome.{Outcome}
use Rattle.lane_record.specs.declared.item.Item.{Item}
use Rattle.lane_record.specs.Items.{plan_in}
use Rattle.lane_record.specs.Claims.{claims}
use Rattle.lane_record.specs.Bounds.{AreLostOnlyIf, HasWaited, IsKept, TellRounds}
use Rattle.lane_record.specs.Offers.{Agrees}
use Rattle.lane_record.specs.Outcomes.{AreShort}
use Rattle.hub_lane.specs.LateAnswers.{AreLateAnswers}
use Rattle.hub_lane.specs.Standing.{AreInAir, IsStanding, IsUnanswered}

-- what a board told of itself: its MTU in bytes, how many replies it keeps, and the identifier that it expects first
pub record BoardStatus : Type 0 where
  pub mtu : ℕ
  pub buffers : ℕ
  pub next : ℕ

abbrev pub status_of : Status → BoardStatus
status_of s = record { mtu = s.mtu; buffers = s.buffers; next = s.next }

-- This board told this status before it executed anything.
pub record HasToldStatus (status : BoardStatus) (board : Board) : Type 0 where
  pub mtu : status.mtu ≡ board.mtu
  pub buffers : status.buffers ≡ board.buffers
  pub next : status.next ≡ board.first

-- A lane: its link and the number of that among the links of its rack, the settings and the status told at the greeting, its engine's hub, its record, what became of each
-- Ask in order, what came late at each place from 1 on (one for each Ask, so there is room for every place), how often
-- it gave up, the events of its engine since the greeting, in order, whether its link failed, and whether it ran out of
-- memory in a pump.
pub record LaneState (L : Type 0) : Type 0 where
  pub link : L
  pub number : ℕ
  pub settings : Limits
  pub status : BoardStatus
  pub hub : Hub
  pub items : List Item
  pub outcomes : List (Option Outcome)
  pub lates : List (Option (List ℕ))
  pub give_ups : ℕ
  pub run : List RunEvent
  pub down : Bool
  pub spent : Bool

-- one more entry
abbrev pub with_item : {L : Type 0} → LaneState L → Item → LaneState L
with_item lane item = record lane { items = lane.items ++ item ∷ [] }

-- the same lane but for its link
abbrev pub with_link : {L : Type 0} → LaneState L → L → LaneState L
with_link lane link = record lane { link = link }

-- the board of a link that tells, as it was before it executed anything
abbrev pub board_of : Option Telling → Option Board
board_of None = None
board_of (Some t) = Some (record t.told.board { log = [] })

-- the opening bus of the board of a link that tells
abbrev pub opening_of : Option Telling → Option CellMap
opening_of None = None
opening_of (Some t) = Some t.told.board.opening

-- 1 where a body was asked and has no outcome yet
abbrev pub waits : Hub → ℕ
waits hub = if is_waiting hub then 1 else 0

-- a body with its header, and its longest reply with its header, are packets that the board takes and sends
pub record FitsBoard (payload : ℕ) (body : List ℕ) : Type 0 where
  pub short : length body + 1 ≤ payload
  pub reply_short : reply_room body + 1 ≤ payload

-- a planned body that fits
abbrev pub IsFittingPlan : ℕ → Item → Type 0
IsFittingPlan payload x = IfSome (plan_in x.what) (FitsBoard payload)

-- a hub that knows a board by this status
pub record KnowsBoard (settings : Limits) (status : BoardStatus) (hub : Hub) : Type 0 where
  pub limits : AreLimits settings
  pub mtu : IsMtu status.mtu
  pub buffers : IsBufferCount status.buffers
  pub identifier : IsIdentifier status.next
  pub first : hub.first ≡ status.next
  pub window : hub.window ≡ min settings.window status.buffers
  pub rounds : hub.rounds ≡ settings.rounds

-- what the hub of a lane keeps over any link, where there are so many Asks
pub record IsReady (asks : ℕ) (hub : Hub) : Type 0 where
  pub drained : IsDrained hub
  pub window : IsWindow hub.window (length hub.sent) (places hub.open_places)
  pub bodies : HasBodies asks hub

-- What holds of a lane. The record is legal, and gives up, times out and waits by the numbers of its link; the hub was
-- offered the bodies of the Asks in order, and waits for those without an outcome, unless its link failed; a body is
-- lost only where the link failed, one that was timed out tells the rounds of the settings, and the words of a reply
-- fit a packet; what came late is of bodies that were timed out; and over a link that tells, hub, board and air are a
-- state of a run of the world, no reply of an open place was handed out, unless memory ran out in hearing it, and the
-- status is that of the board.
pub record IsLane (settings : Limits) (status : BoardStatus) (hub : Hub) (items : List Item)
    (outcomes : List (Option Outcome)) (lates : List (Option (List ℕ))) (give_ups : ℕ) (down spent : Bool)
    (telling : Option Telling) (faults quiets : ℕ) : Type 0 where
  pub knows : KnowsBoard settings status hub
  pub ready : IsReady (length outcomes) hub
  pub agrees : Agrees hub.sent (if down then [] else hub.queue) (if down then [] else hub.open_places)
      (claims items) outcomes
  pub kept : IsKept items outcomes hub.window give_ups
  pub waited : HasWaited hub.rounds give_ups hub.status_requests quiets
  pub fewer : give_ups + waits hub ≤ length outcomes
  pub fits : AllByRecursion (IsFittingPlan (payload_of status.mtu)) items
  pub fault : down ≡ true → 1 ≤ faults
  pub lost : AreLostOnlyIf (down ≡ true) outcomes
  pub tells : TellRounds settings.rounds outcomes
  pub short : AreShort outcomes
  pub late : AreLateAnswers hub outcomes lates
  pub standing : IfSome telling (IsStanding (down || spent) settings hub outcomes lates)
  pub unanswered : IfSome telling (IsUnanswered hub down spent)
  pub told : IfSome telling (λ (t : Telling). HasToldStatus status t.told.board)

-- a link that tells, after a greeting in which its board told this status: a run can begin there
pub record IsGreeted (settings : Limits) (status : BoardStatus) (t : Telling) : Type 0 where
  pub begins : IsStart settings.window t.told.board t.told.air
  pub in_air : AreInAir t
  pub told : HasToldStatus status t.told.board

-- a lane before its first entry, over a link with this number
abbrev pub new_lane : {L : Type 0} → ℕ → L → Limits → BoardStatus → LaneState L
new_lane number link settings status = record {
  link = link;
  number = number;
  settings = settings;
  status = status;
  hub = new_hub status.next (min settings.window status.buffers) settings.rounds;
  items = [];
  outcomes = [];
  lates = [];
  give_ups = 0;
  run = [];
  down = false;
  spent = false;
}
