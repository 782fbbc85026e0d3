-- The world of one hub, one board and the air between them, and its moves. Which datagram is heard next, by whom, how
-- often and whether at all is free: so the moves choose what the path does to each datagram. Profile.
use Rattle.std.specs.Prelude.{ℕ, zero, suc, ◌+◌, min, if◌then◌else◌, List, [], ◌∷◌, ◌++◌, length, Option, Some}
use Rattle.std.specs.Prelude.{None, Result, Ok, Err}
use Rattle.std.specs.List.{slice_get}
use Rattle.world_model.specs.declared.datagram.Datagram.{Datagram}
use Rattle.world_model.specs.declared.datagram.Direction.{Direction}
use Rattle.world_model.specs.declared.datagram.Direction.TheVariants.{ToBoard, ToHub}
use Rattle.world_model.specs.declared.offered.Fate.{Fate}
use Rattle.world_model.specs.declared.moves.WorldMove.{WorldMove}
use Rattle.world_model.specs.declared.moves.WorldMove.TheVariants.{Offer, Quiet, HubHears, BoardHears}
use Rattle.world_model.specs.declared.moves.WorldEnd.{WorldEnd}
use Rattle.world_model.specs.declared.moves.WorldEnd.TheVariants.{NotThere, TooOld}
use Rattle.world_model.specs.Messages.{to_hub}
use Rattle.world_model.specs.Board.{Board, hear}
use Rattle.world_model.specs.Hub.{Hub, HandedOut, after_handing_out, hands_out}
use Rattle.world_model.specs.Hub.{offer, take_message, hear_quiet, is_waiting, new_hub}
use Rattle.world_model.specs.Sends.{Next, next_send, pending, bytes_to_send}
use Rattle.world_model.specs.Air.{is_alive, goes_to}

-- A board, the hub of it, the air, and what was handed out, in order: fates, each under its tag, and late answers, each
-- with its place.
pub record World : Type 0 where
  pub board : Board
  pub hub : Hub
  pub air : List Datagram
  pub fates : List (ℕ × Fate)
  pub lates : List (ℕ × List ℕ)

-- A send joins the air. It is itself counted among the first sends at its birth, where it is one.
abbrev pub sent_into : World → Next → World
sent_into w next = record w {
  hub = next.hub;
  air = w.air ++ record {
    direction = ToBoard;
    bytes = bytes_to_send next.hub next.send;
    birth = length next.hub.sent;
  } ∷ [];
}

-- The hub sends until it has nothing to send: no more often than sends are pending.
abbrev pub flush_on : Option Next → (Next → World) → World → World
flush_on None later w = w
flush_on (Some next) later w = later next

abbrev pub flush : ℕ → World → World
flush zero w = w
flush (suc most) w = flush_on (next_send w.hub) (λ next. flush most (sent_into w next)) w

-- what was handed out in a world, and a world in which this was
abbrev pub told_in : World → HandedOut
told_in w = record { fates = w.fates; lates = w.lates }

abbrev pub with_told : World → HandedOut → World
with_told w told = record w { fates = told.fates; lates = told.lates }

-- fates and late answers are handed out
abbrev pub handed_out : World → World
handed_out w = with_told (record w { hub = after_handing_out w.hub }) (hands_out (told_in w) w.hub)

abbrev pub with_hub : World → Hub → World
with_hub w hub = record w { hub = hub }

-- after an event of the hub it sends what there is to send, and its fates and late answers are handed out
abbrev pub go_on : World → Hub → World
go_on w hub = handed_out (flush (pending hub) (with_hub w hub))

-- A datagram for this hearer that is alive, or why there is none: the number of the move is named.
abbrev pub taken_datagram : ℕ → ℕ → Direction → Option Datagram → Result (List ℕ) WorldEnd
taken_datagram at sent hearer None = Err (NotThere at)
taken_datagram at sent hearer (Some datagram) =
    if goes_to hearer datagram.direction
    then (if is_alive sent datagram then Ok datagram.bytes else Err (TooOld at))
    else Err (NotThere at)

-- the hub hears these bytes
abbrev pub hub_hears : World → List ℕ → World
hub_hears w bytes = go_on w (take_message w.hub (to_hub bytes))

-- the board hears these bytes, and its answer joins the air
abbrev pub air_after_answer : ℕ → Option (List ℕ) → List Datagram
air_after_answer birth None = []
air_after_answer birth (Some bytes) = record { direction = ToHub; bytes = bytes; birth = birth } ∷ []

abbrev pub board_hears : World → List ℕ → World
board_hears w bytes =
    let heard = hear w.board bytes in
    record w { board = heard.board; air = w.air ++ air_after_answer (length w.hub.sent) heard.answer }

abbrev pub when_taken : Result (List ℕ) WorldEnd → (List ℕ → World) → Result World WorldEnd
when_taken (Ok bytes) hears = Ok (hears bytes)
when_taken (Err end) hears = Err end

-- one move, with its number
abbrev pub step : ℕ → World → WorldMove → Result World WorldEnd
step at w (Offer tag body) = Ok (go_on w (offer w.hub (record { tag = tag; body = body })))
step at w Quiet = if is_waiting w.hub then Ok (go_on w (hear_quiet w.hub)) else Err (NotThere at)
step at w (HubHears i) = when_taken (taken_datagram at (length w.hub.sent) ToHub (slice_get w.air i)) (hub_hears w)
step at w (BoardHears i) = when_taken (taken_datagram at (length w.hub.sent) ToBoard (slice_get w.air i)) (board_hears w)

-- moves one after another, numbered from `at`, up to the first that is not allowed
abbrev pub moves_on : Result World WorldEnd → (World → Result World WorldEnd) → Result World WorldEnd
moves_on (Ok w) later = later w
moves_on (Err end) later = Err end

abbrev pub run_moves : ℕ → World → List WorldMove → Result World WorldEnd
run_moves at w [] = Ok w
run_moves at w (move ∷ moves) = moves_on (step at w move) (λ after. run_moves (at + 1) after moves)

-- The hub knows the board's first identifier, and its window is no greater than the number of the board's buffers.
abbrev pub start : ℕ → ℕ → Board → List Datagram → World
start window rounds board air = record {
  board = board;
  hub = new_hub board.first (min window board.buffers) rounds;
  air = air;
  fates = [];
  lates = [];
}
