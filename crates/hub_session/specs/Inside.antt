-- How the code goes through a connection. No public contract cites these.
use Rattle.std.specs.Prelude.{◌≡◌, ◌⊎◌, ℕ, ◌+◌, ◌-◌, ◌≤◌, ◌<◌, ⊤, List, [], ◌∷◌, ◌++◌, length, map, Option, None}
use Rattle.std.specs.List.{AllByRecursion}
use Rattle.std.specs.Io.KnownBytes.{append_known, prepend_known}
use Rattle.ipb_base.specs.Numbers.{in_64_bits}
use Rattle.turn_pass.specs.Pass.{Knowledge}
use Rattle.lane_record.specs.Items.{told_by_first, took_in}
use Rattle.lane_record.specs.Outcomes.{IsShort}
use Rattle.hub_lane.specs.declared.answers.BoardState.{BoardState}
use Rattle.hub_multiplexer.specs.OwnItems.{HasTakenAllOf, asked_by, own_items, planned_by}
use Rattle.hub_multiplexer.specs.Seats.{SeatState}
use Rattle.hub_framing.specs.Frames.{RequestFrame, IsFrame, frames_bytes}
use Rattle.hub_session.specs.declared.got.Got.{Got}
use Rattle.hub_session.specs.declared.got.Got.TheVariants.{NotAsked, Refused, Came}
use Rattle.hub_session.specs.declared.progress.Progress.{Progress}
use Rattle.hub_session.specs.declared.progress.Replies.{Replies}
use Rattle.hub_session.specs.declared.served.SessionEnd.{SessionEnd}
use Rattle.hub_session.specs.declared.served.SessionEnd.TheVariants as ends
use Rattle.hub_session.specs.Answers.{answer}
use Rattle.hub_session.specs.Exchanges.{Exchange, Exchanges, ExchangesAll, answers, frames_of, request_of}
use Rattle.hub_session.specs.Serving.{IsServed, IsUnused, Reached, ReachesFor}

-- the client asked all that it planned, and took what became of that and of nothing else
pub record IsSettled (k : Knowledge) : Type 0 where
  pub all_asked : asked_by k ≡ planned_by k
  pub all_taken : HasTakenAllOf k
  pub none_more : (seq : ℕ) → asked_by k ≤ seq → told_by_first took_in k.number seq (own_items k) ≡ None

-- the seat is of the same client and the same turns
abbrev pub IsSameSeat : SeatState → SeatState → Type 0
IsSameSeat old new = (new.client ≡ old.client) × (new.turns ≡ old.turns)

-- a reply that fits a packet, where there is one
abbrev pub IsShortGot : Got → Type 0
IsShortGot NotAsked = ⊤
IsShortGot (Refused why) = ⊤
IsShortGot (Came outcome) = IsShort outcome

-- what stands of a frame that was not answered
abbrev pub StandsOf : List BoardState → RequestFrame → SeatState → SeatState → Type 0
StandsOf boards frame old new = (new ≡ old)
    ⊎ ((reached : Reached) × ReachesFor (request_of boards frame) reached old new)

-- the hub came to something for a frame, and the answer went behind those that wait to be written
pub record HasAnswered (boards : List BoardState) (frame : RequestFrame) (old new : SeatState)
    (before after : Replies) : Type 0 where
  pub got : Got
  pub exchanged : Exchanges boards (record { frame = frame; got = got }) old new
  pub bytes_now : after.bytes.items ≡ before.bytes.items ++ answer boards frame got
  pub lengths_now : after.lengths.items ≡ before.lengths.items ++ length (answer boards frame got) ∷ []

-- ---- writing

-- so many replies with these lengths are whole in so many bytes
abbrev pub AreWholeIn : List ℕ → ℕ → ℕ → Type 0
AreWholeIn [] count whole = whole ≡ 0
AreWholeIn (first ∷ lengths) count whole = ((count < first) × (whole ≡ 0))
    ⊎ ((first ≤ count) × (more : ℕ) × (whole ≡ more + 1) × AreWholeIn lengths (count - first) more)

-- no reply waits to be written
abbrev pub NoneWaits : Progress → Type 0
NoneWaits progress = progress.replies.lengths.items ≡ []

-- these answers wait to be written
pub record AreWaiting (boards : List BoardState) (replies : Replies) (waiting : List Exchange) : Type 0 where
  pub bytes_are : replies.bytes.items ≡ answers boards waiting
  pub lengths_are : replies.lengths.items ≡ map (λ (e : Exchange). length (answer boards e.frame e.got)) waiting

-- ---- a connection

-- a connection at its start: what the seat knows, and the bytes of its source and of its sink
pub record Opening : Type 0 where
  pub seat : SeatState
  pub left : Option (List ℕ)
  pub written : Option (List ℕ)

-- A connection as it stands: what the seat knows, the bytes that its source has left and those that its sink was given,
-- the bytes that the framer holds, the replies that wait to be written, and how many were written.
pub record Connection : Type 0 where
  pub seat : SeatState
  pub left : Option (List ℕ)
  pub written : Option (List ℕ)
  pub held : List ℕ
  pub replies : Replies
  pub frames : ℕ

-- with what it has come to, but for what the framer holds
abbrev pub standing : SeatState → Option (List ℕ) → Option (List ℕ) → List ℕ → Progress → Connection
standing seat left written held progress = record {
  seat = seat;
  left = left;
  written = written;
  held = held;
  replies = progress.replies;
  frames = progress.frames;
}

-- From its start until now the bytes that were read are the frames whose answers were written, those whose answers wait
-- to be written, and what the framer holds.
pub record IsServing (boards : List BoardState) (start : Opening) (now : Connection) : Type 0 where
  pub unused : AllByRecursion IsUnused start.seat.knows
  pub bytes : List ℕ
  pub taken : start.left ≡ prepend_known bytes now.left
  pub answered : List Exchange
  pub waiting : List Exchange
  pub fed : bytes ≡ frames_bytes (frames_of (answered ++ waiting)) ++ now.held
  pub each_frame : AllByRecursion IsFrame (frames_of (answered ++ waiting))
  pub counted : now.frames ≡ in_64_bits (length answered)
  pub written_are : now.written ≡ append_known start.written (answers boards answered)
  pub waiting_are : AreWaiting boards now.replies waiting
  pub exchanged : ExchangesAll boards (answered ++ waiting) start.seat now.seat

-- it goes on, wherever it started
abbrev pub GoesOn : List BoardState → Connection → Connection → Type 0
GoesOn boards old new = (start : Opening) → IsServing boards start old → IsServing boards start new

-- it ends, wherever it started
abbrev pub ComesToEnd : List BoardState → Connection → Connection → SessionEnd → Type 0
ComesToEnd boards old new end = (start : Opening) → IsServing boards start old
    → IsServed boards start.seat new.seat start.left new.left start.written new.written
    (record { frames = new.frames; end = end })

-- an end where the input ended
abbrev pub IsAtInputEnd : SessionEnd → Type 0
IsAtInputEnd ends.Closed = ⊤
IsAtInputEnd ends.CutFrame = ⊤
IsAtInputEnd ends.BadFrame = ⊥
IsAtInputEnd ends.ReadFault = ⊥
IsAtInputEnd ends.WriteFault = ⊥
IsAtInputEnd ends.NoMemory = ⊥
