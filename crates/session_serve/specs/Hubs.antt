-- What serving connections does to a hub and its lanes. What private functions promise one another; no public clause
-- speaks of these.
use Rattle.std.specs.Prelude.{◌≡◌, ℕ, List, [], ◌++◌, map, Option}
use Rattle.std.specs.List.{AllByRecursion}
use Rattle.ipb_base.specs.Numbers.{payload_of}
use Rattle.turn_pass.specs.Pass.{Knowledge, TurnId}
use Rattle.ipb_outside.specs.declared.door.Door.{Ghosts as DoorGhosts}
use Rattle.ipb_outside.specs.declared.sink.Sink.{Ghosts as SinkGhosts}
use Rattle.ipb_outside.specs.declared.source.Source.{Ghosts as SourceGhosts}
use Rattle.ipb_outside.specs.Pairs.{Came, PairReport, Went, pair_shown}
use Rattle.links.specs.Telling.{Telling}
use Rattle.lane_record.specs.Submissions.{Submission}
use Rattle.hub_lane.specs.Lanes.{LaneState}
use Rattle.hub_lane.specs.declared.answers.BoardState.{BoardState}
use Rattle.hub_multiplexer.specs.Ends.{Ends}
use Rattle.hub_multiplexer.specs.Lanes.{shown_record}
use Rattle.hub_multiplexer.specs.Seats.{MasterState, SeatState}
use Rattle.client_history.specs.Clients.{came_with}
use Rattle.board_greeting.specs.Boards.{head_shown}
use Rattle.client_threads.specs.Running.{AtEach}
use Rattle.hub_session.specs.declared.served.Served.{Served}
use Rattle.hub_session.specs.Exchanges.{submissions_on}
use Rattle.client_history.specs.Connections.{WereServedOn}
use Rattle.client_history.specs.Planned.{KeepLimits}
use Rattle.session_serve.specs.Connections.{Conversation, HaveExchanged, exchanges_of}
use Rattle.session_serve.specs.Refusals.{AreFilledBefore, AreFramesByRules}
use Rattle.session_serve.specs.Seats.{AreOfClientsFrom, AreTakenIn, EachDone, IsFresh}
use Rattle.session_serve.specs.declared.connection.Done.{Done}

-- ---- seats

abbrev pub seats_of : {I O : Type 0} → List (Done I O) → List SeatState
seats_of {I} {O} dones = map (λ (done : Done I O). done.seat) dones

abbrev pub pairs_of : {I O : Type 0} → List (Done I O) → List (I × O)
pairs_of {I} {O} dones = map (λ (done : Done I O). (done.src, done.sink)) dones

abbrev pub served_of : {I O : Type 0} → List (Done I O) → List Served
served_of {I} {O} dones = map (λ (done : Done I O). done.served) dones

-- Connections came, were served under the first of the seats, and went back; the other seats did nothing. All seats
-- were taken in.
pub record AllBack {I O : Type 0} (shows : I × O → PairReport) (boards : List BoardState) (turns : List TurnId)
    (seats : List SeatState) (start end' : MasterState) (coming coming_now kept kept_now : Option (List (I × O)))
    : Type 0 where
  pub came : List (I × O)
  pub dones : List (Done I O)
  pub came' : Came coming coming_now came
  pub went : Went kept kept_now (pairs_of dones)
  pub befores : List SeatState
  pub others : List SeatState
  pub each : EachDone shows boards befores came dones
  pub all : befores ++ others ≡ seats
  pub fresh : AllByRecursion (IsFresh turns) seats
  pub clients : AreOfClientsFrom 1 seats
  pub taken_in : AreTakenIn start end' (seats_of dones ++ others)

-- the same of a door before and after
abbrev pub GivesAllBack : {D I O : Type 0} → DoorGhosts D I O → SourceGhosts I → SinkGhosts O → List BoardState
    → List TurnId → List SeatState → MasterState → MasterState → D → D → Type 0
GivesAllBack {D} {I} {O} seen source sink boards turns seats start end' door door_now =
    AllBack (pair_shown source sink) boards turns seats start end' (seen.coming door) (seen.coming door_now)
    (seen.kept door) (seen.kept door_now)

-- At its end these are the lines of all connections, one for each seat.
pub record HasServedAll {I O : Type 0} (shows : I × O → PairReport) (boards : List BoardState) (turns : List TurnId)
    (seats : List SeatState) (start end' : MasterState) (coming coming_now kept kept_now : Option (List (I × O)))
    (served : List Served) : Type 0 where
  pub all_back : AllBack shows boards turns seats start end' coming coming_now kept kept_now
  pub lines : served ≡ served_of all_back.dones
  pub no_others : all_back.others ≡ []

abbrev pub ServesAll : {D I O : Type 0} → DoorGhosts D I O → SourceGhosts I → SinkGhosts O → List BoardState
    → List TurnId → List SeatState → MasterState → MasterState → D → D → List Served → Type 0
ServesAll {D} {I} {O} seen source sink boards turns seats start end' door door_now served =
    HasServedAll (pair_shown source sink) boards turns seats start end' (seen.coming door) (seen.coming door_now)
    (seen.kept door) (seen.kept door_now) served

-- ---- lanes

-- a lane came back with the head of its record
abbrev pub KeepsHead : {L : Type 0} → (L → Option Telling) → LaneState L → LaneState L → Type 0
KeepsHead tells old new = head_shown tells new ≡ head_shown tells old

-- Each connection submitted these bodies to a lane that had no entry, one after the other, whatever the schedule of the
-- connections was.
pub record IsServedLane {L : Type 0} (tells : L → Option Telling) (connections : List (List Submission))
    (old new : LaneState L) : Type 0 where
  pub after : Knowledge
  pub served_on : WereServedOn connections (came_with (head_shown tells old) []) after
  pub ended : Ends after (shown_record tells new)

-- what connections submitted to a lane
abbrev pub submitted_on : List BoardState → ℕ → List Conversation → List (List Submission)
submitted_on boards lane conversations =
    map (λ (c : Conversation). submissions_on boards lane (exchanges_of c)) conversations

-- Connections were served at a hub of these lanes, and left on them what they exchanged.
pub record AreServedAt {L : Type 0} (tells : L → Option Telling) (boards : List BoardState)
    (olds news : List (LaneState L)) (came back : List PairReport) (served : List Served) : Type 0 where
  pub conversations : List Conversation
  pub exchanged : HaveExchanged boards 1 conversations came back served
  pub lanes : AtEach olds news (λ lane. IsServedLane tells (submitted_on boards lane conversations))
  pub by_rules : AtEach olds news (λ lane old new. AreFramesByRules (payload_of old.status.mtu)
      (submitted_on boards lane conversations) boards lane conversations)
  pub filled_before : AtEach olds news (λ lane old new. AreFilledBefore (submitted_on boards lane conversations) boards
      lane conversations)
  pub limits : AtEach olds news (λ lane old new. KeepLimits (submitted_on boards lane conversations))
