-- What serving one connection does. Profile.
use Rattle.std.specs.Prelude.{◌≡◌, ◌≢◌, ◌⊎◌, ◌==◌, ℕ, ◌<◌, ⊤, if◌then◌else◌}
use Rattle.std.specs.Prelude.{List, [], ◌∷◌, ◌++◌, length, map, Option, Some, None}
use Rattle.std.specs.List.{AllByRecursion, filter_map, slice_get}
use Rattle.std.specs.Io.KnownBytes.{append_known, prepend_known, IsAtEnd}
use Rattle.ipb_base.specs.Lists.{IsProperPrefix}
use Rattle.ipb_base.specs.Numbers.{in_64_bits}
use Rattle.turn_pass.specs.Pass.{Knowledge}
use Rattle.lane_record.specs.Coding.{item_from}
use Rattle.lane_record.specs.Dispatches.{NumberedAction, Planned, Asked, numbered_action}
use Rattle.lane_record.specs.NextEntry.{ask_of, plan_of}
use Rattle.lane_record.specs.Submissions.{submissions_from}
use Rattle.hub_lane.specs.declared.answers.BoardState.{BoardState}
use Rattle.hub_lane.specs.declared.answers.BoardState.TheVariants.{Lane, Silent, Down}
use Rattle.hub_multiplexer.specs.OwnItems.{own_items, planned_by}
use Rattle.hub_multiplexer.specs.Seats.{ChangesAt, SeatState}
use Rattle.hub_framing.specs.Frames.{RequestFrame, IsFrame, IsFrameStream, IsBegun, IsTooLong, IsTooShort, frames_bytes}
use Rattle.hub_session.specs.declared.got.Got.{Got}
use Rattle.hub_session.specs.declared.got.Got.TheVariants.{NotAsked, Refused, Came}
use Rattle.hub_session.specs.declared.served.Served.{Served}
use Rattle.hub_session.specs.declared.served.SessionEnd.{SessionEnd}
use Rattle.hub_session.specs.declared.served.SessionEnd.TheVariants as ends
use Rattle.hub_session.specs.Answers.{answer}
use Rattle.hub_session.specs.Exchanges.{Exchange, ExchangesAll, ExchangesFor, GrewBy, IsExchange, LaneRequest, answers}
use Rattle.hub_session.specs.Exchanges.{frames_of, request_of, submissions_on}

-- ---- what is wanted before

-- the lane of a board is one of so many
abbrev pub IsLaneBelow : ℕ → BoardState → Type 0
IsLaneBelow count (Lane lane) = lane < count
IsLaneBelow count Silent = ⊤
IsLaneBelow count Down = ⊤

-- a pass that made no entry, and whose client has none in the record with which the lane came to the hub
pub record IsUnused (k : Knowledge) : Type 0 where
  pub no_call : k.mine ≡ []
  pub no_entry : own_items k ≡ []

-- ---- a frame whose answer was not made

-- How far it came on its lane: the record was seen again and the body was not planned; it was planned; it was planned
-- and asked; or the hub came to something for the frame.
pub data Reached : Type 0 where
  Looked : Reached
  PlannedOnly : Reached
  AskedToo : Reached
  Exchanged : Got → Reached

pub record Unanswered : Type 0 where
  pub frame : RequestFrame
  pub reached : Reached

abbrev pub frame_left : Option Unanswered → List RequestFrame
frame_left None = []
frame_left (Some u) = u.frame ∷ []

pub record HasPlannedOnly (body : List ℕ) (k after : Knowledge) : Type 0 where
  pub grew : GrewBy (plan_of k.number (planned_by k) body ∷ []) k after

pub record HasAskedToo (body : List ℕ) (k after : Knowledge) : Type 0 where
  pub asked_at : ℕ
  pub grew : GrewBy (plan_of k.number (planned_by k) body ∷ ask_of k.number (planned_by k) asked_at ∷ []) k after

-- what it did to what the seat knows
abbrev pub ReachesFor : Option LaneRequest → Reached → SeatState → SeatState → Type 0
ReachesFor request (Exchanged got) old new = ExchangesFor request got old new
ReachesFor None Looked old new = ⊥
ReachesFor None PlannedOnly old new = ⊥
ReachesFor None AskedToo old new = ⊥
ReachesFor (Some request) Looked old new = ChangesAt request.lane old new (GrewBy [])
ReachesFor (Some request) PlannedOnly old new = ChangesAt request.lane old new (HasPlannedOnly request.body)
ReachesFor (Some request) AskedToo old new = ChangesAt request.lane old new (HasAskedToo request.body)

abbrev pub Reaches : List BoardState → Option Unanswered → SeatState → SeatState → Type 0
Reaches boards None old new = new ≡ old
Reaches boards (Some u) old new = ReachesFor (request_of boards u.frame) u.reached old new

-- what it adds to what the client did on a lane, where its body has this number
abbrev pub actions_of_got : ℕ → List ℕ → Got → List NumberedAction
actions_of_got seq body NotAsked = []
actions_of_got seq body (Refused why) = []
actions_of_got seq body (Came outcome) = submissions_from seq (record { body = body; outcome = outcome } ∷ [])

abbrev pub actions_reached : ℕ → List ℕ → Reached → List NumberedAction
actions_reached seq body Looked = []
actions_reached seq body PlannedOnly = record { seq = seq; action = Planned body } ∷ []
actions_reached seq body AskedToo =
    record { seq = seq; action = Planned body } ∷ record { seq = seq; action = Asked } ∷ []
actions_reached seq body (Exchanged got) = actions_of_got seq body got

abbrev pub actions_for : ℕ → ℕ → Option LaneRequest → Reached → List NumberedAction
actions_for lane seq None reached = []
actions_for lane seq (Some request) reached =
    if request.lane == lane then actions_reached seq request.body reached else []

abbrev pub actions_left : List BoardState → ℕ → ℕ → Option Unanswered → List NumberedAction
actions_left boards lane seq None = []
actions_left boards lane seq (Some u) = actions_for lane seq (request_of boards u.frame) u.reached

-- ---- one lane

-- What the seat did on a lane: of each frame that has an answer and whose body was submitted there, the Plan, the Ask
-- and the Took with what the answer tells, in order, the numbers from 0; then what stands of a frame that has none.
-- Nothing else of what the pass knows changed, but what it has seen and how often it found the lane taken.
pub record HasServedOn (boards : List BoardState) (lane : ℕ) (answered : List Exchange) (unanswered : Option Unanswered)
    (k after : Knowledge) : Type 0 where
  pub rest_same : after ≡ record k { seen = after.seen; mine = after.mine; vain = after.vain }
  pub actions : map numbered_action (filter_map item_from after.mine)
      ≡ submissions_from 0 (submissions_on boards lane answered)
      ++ actions_left boards lane (length (submissions_on boards lane answered)) unanswered

-- ---- the whole connection

-- these ends come when all frames that were read are answered
abbrev pub AnswersAll : SessionEnd → Type 0
AnswersAll ends.Closed = ⊤
AnswersAll ends.ReadFault = ⊤
AnswersAll ends.BadFrame = ⊤
AnswersAll ends.CutFrame = ⊤
AnswersAll ends.WriteFault = ⊥
AnswersAll ends.NoMemory = ⊥

-- the input decided on these ends: it ended, or has a length field out of range
abbrev pub IsByInput : SessionEnd → Type 0
IsByInput ends.Closed = ⊤
IsByInput ends.BadFrame = ⊤
IsByInput ends.CutFrame = ⊤
IsByInput ends.ReadFault = ⊥
IsByInput ends.WriteFault = ⊥
IsByInput ends.NoMemory = ⊥

-- what is behind the frames of a stream, where it ends so
abbrev pub IsEndAt : List ℕ → SessionEnd → Type 0
IsEndAt rest ends.Closed = rest ≡ []
IsEndAt rest ends.CutFrame = (rest ≢ []) × IsBegun rest
IsEndAt rest ends.BadFrame = IsTooLong rest ⊎ IsTooShort rest
IsEndAt rest ends.ReadFault = IsBegun rest
IsEndAt rest ends.WriteFault = ⊤
IsEndAt rest ends.NoMemory = ⊤

-- the input ended
abbrev pub IsInputAt : Option (List ℕ) → SessionEnd → Type 0
IsInputAt left ends.Closed = IsAtEnd left
IsInputAt left ends.CutFrame = IsAtEnd left
IsInputAt left ends.BadFrame = ⊤
IsInputAt left ends.ReadFault = ⊤
IsInputAt left ends.WriteFault = ⊤
IsInputAt left ends.NoMemory = ⊤

-- What was written behind the answers that were written whole, and which frames are behind those of these answers. At a
-- fault of writing it is a proper prefix of the next answer, and no frame is there without an answer. After want of
-- memory it is nothing: answers that wait to be written are not, and there may be a frame that was begun. At every other
-- end it is nothing, and all answers were written.
abbrev pub IsPartAt : List BoardState → List Exchange → Option Unanswered → List ℕ → SessionEnd → Type 0
IsPartAt boards unwritten unanswered part ends.WriteFault = (unanswered ≡ None) × (next : Exchange)
    × (later : List Exchange) × (unwritten ≡ next ∷ later) × IsProperPrefix part (answer boards next.frame next.got)
IsPartAt boards unwritten unanswered part ends.NoMemory = part ≡ []
IsPartAt boards unwritten unanswered part ends.Closed = (unanswered ≡ None) × (unwritten ≡ []) × (part ≡ [])
IsPartAt boards unwritten unanswered part ends.CutFrame = (unanswered ≡ None) × (unwritten ≡ []) × (part ≡ [])
IsPartAt boards unwritten unanswered part ends.BadFrame = (unanswered ≡ None) × (unwritten ≡ []) × (part ≡ [])
IsPartAt boards unwritten unanswered part ends.ReadFault = (unanswered ≡ None) × (unwritten ≡ []) × (part ≡ [])

-- What serving a connection did, to the bytes that its source has left, to those that its sink was given, and to what
-- the seat knows. What is not told stays so.
pub record IsServed (boards : List BoardState) (old new : SeatState) (left_before left_after : Option (List ℕ))
    (written_before written_after : Option (List ℕ)) (served : Served) : Type 0 where
  -- the bytes that were read
  pub bytes : List ℕ
  pub taken : left_before ≡ prepend_known bytes left_after
  -- They begin with the frames whose answers were written whole, in order; then come those whose answers were not, and
  -- then one without an answer, if there is one.
  pub answered : List Exchange
  pub unwritten : List Exchange
  pub unanswered : Option Unanswered
  pub rest : List ℕ
  pub frames : bytes ≡ frames_bytes (frames_of (answered ++ unwritten) ++ frame_left unanswered) ++ rest
  pub each_frame : AllByRecursion IsFrame (frames_of (answered ++ unwritten) ++ frame_left unanswered)
  -- All frames that were read are answered, unless a fault of writing or want of memory came before.
  pub all_frames : AnswersAll served.end → IsFrameStream bytes (frames_of answered) rest
  -- the number of answers that were written whole, in 64 bits, where it stands still at its end
  pub counted : served.frames ≡ in_64_bits (length answered)
  -- The answers were written in order; behind them a part of the next one at a fault of writing alone.
  pub part : List ℕ
  pub written : written_after ≡ append_known written_before (answers boards answered ++ part)
  pub part_of : IsPartAt boards unwritten unanswered part served.end
  -- The hub was asked for each body that a frame has for a lane, and nothing else changed what the seat knows. A
  -- body was refused by the rules of planning, on the record as the seat saw it then.
  pub exchanges : AllByRecursion (IsExchange boards) (answered ++ unwritten)
  pub between : SeatState
  pub exchanged : ExchangesAll boards (answered ++ unwritten) old between
  pub reached : Reaches boards unanswered between new
  -- the seat knows as many lanes as before
  pub known : length new.knows ≡ length old.knows
  -- the seat's entries on each lane
  pub on_lanes : (lane : ℕ) (k after : Knowledge) → slice_get old.knows lane ≡ Some k
      → slice_get new.knows lane ≡ Some after → HasServedOn boards lane (answered ++ unwritten) unanswered k after
  -- why it ended
  pub ended_at : IsEndAt rest served.end
  pub input : IsInputAt left_after served.end
