-- The seats of connections, and what the master of a hub knows once they were taken in. What private functions promise
-- one another; no public clause speaks of these.
use Rattle.std.specs.Prelude.{◌≡◌, ℕ, ◌+◌, List, [], ◌∷◌, ◌++◌, length, map, true, Option, Some}
use Rattle.std.specs.List.{AllByRecursion, slice_get}
use Rattle.std.specs.Vec.Iter.{into_iter_items}
use Rattle.turn_pass.specs.Pass.{Joined, Knowledge, TurnId, kept_of}
use Rattle.ipb_outside.specs.Pairs.{Came, PairReport}
use Rattle.lane_record.specs.Coding.{Head}
use Rattle.client_history.specs.Clients.{came_with}
use Rattle.hub_multiplexer.specs.Seats.{MasterState, SeatState}
use Rattle.client_threads.specs.Jobs.{made_more}
use Rattle.client_threads.specs.Running.{AtEach}
use Rattle.hub_lane.specs.declared.answers.BoardState.{BoardState}
use Rattle.hub_session.specs.declared.served.Served.{Served}
use Rattle.hub_session.specs.Serving.{IsUnused}
use Rattle.session_serve.specs.Connections.{IsServedUnder}
use Rattle.session_serve.specs.declared.connection.Done.{Done}
use Rattle.session_serve.specs.declared.serving.Ended.{Ended}

-- a connection that is served: the pair as it came, the seat, and how the boards stand
pub record Begun (I O : Type 0) : Type 0 where
  pub pair : I × O
  pub seat : SeatState
  pub boards : List BoardState

-- a lane came to the hub without an entry, and this is what its first pass knows
pub record IsOpen (k : Knowledge) : Type 0 where
  pub head : Head
  pub knows : k ≡ came_with head []

-- a seat of these turns that made no call yet
pub record IsFresh (turns : List TurnId) (seat : SeatState) : Type 0 where
  pub turns' : seat.turns ≡ turns
  pub numbers : AllByRecursion (λ (k : Knowledge). k.number ≡ seat.client) seat.knows
  pub alone : AllByRecursion (λ (k : Knowledge). k.joined ≡ []) seat.knows
  pub unused : AllByRecursion IsUnused seat.knows
  pub known : length seat.knows ≡ length turns

-- seats of the clients from this one on, in order
abbrev pub AreOfClientsFrom : ℕ → List SeatState → Type 0
AreOfClientsFrom client [] = Unit {0}
AreOfClientsFrom client (seat ∷ seats) = (seat.client ≡ client) × AreOfClientsFrom (client + 1) seats

-- A connection was served under a seat, which knows of each lane still.
pub record IsDone (boards : List BoardState) (before after : SeatState) (came back : PairReport) (served : Served)
    : Type 0 where
  pub under : IsServedUnder boards before after came back served
  pub known : length after.knows ≡ length after.turns

-- what connections are served with: the turns of the hub, how the boards stand, and a seat for each
pub record WorkState : Type 0 where
  pub turns : List TurnId
  pub boards : List BoardState
  pub seats : List SeatState

-- so of one that was begun
abbrev pub IsDoneOf : {I O : Type 0} → (I × O → PairReport) → Begun I O → Done I O → Type 0
IsDoneOf shows begun done =
    IsDone begun.boards begun.seat done.seat (shows begun.pair) (shows (done.src, done.sink)) done.served

-- so of each: its seat, the pair as it came, and what it became
abbrev pub EachDone : {I O : Type 0} → (I × O → PairReport) → List BoardState → List SeatState → List (I × O)
    → List (Done I O) → Type 0
EachDone shows boards [] [] [] = Unit {0}
EachDone shows boards (before ∷ befores) (pair ∷ came) (done ∷ others) =
    IsDone boards before done.seat (shows pair) (shows (done.src, done.sink)) done.served
    × EachDone shows boards befores came others
EachDone shows boards befores came dones = ⊥

-- Of a door that let connections in, each was served under the next of these seats.
pub record HasServed {I O : Type 0} (shows : I × O → PairReport) (boards : List BoardState) (seats : List SeatState)
    (coming coming_now : Option (List (I × O))) (ended : Ended I O) : Type 0 where
  pub befores : List SeatState
  pub came : List (I × O)
  pub came' : Came coming coming_now came
  pub seats' : seats ≡ befores ++ into_iter_items ended.seats
  pub each : EachDone shows boards befores came ended.done.items
  pub all : ended.is_whole ≡ true → into_iter_items ended.seats ≡ []

-- ---- taken in

-- the passes of these seats on a lane, in order
abbrev pub ArePassesOn : ℕ → List SeatState → List Joined → Type 0
ArePassesOn lane [] [] = Unit {0}
ArePassesOn lane (seat ∷ seats) (pass ∷ passes) =
    ((k : Knowledge) × (slice_get seat.knows lane ≡ Some k) × (pass ≡ kept_of k)) × ArePassesOn lane seats passes
ArePassesOn lane seats passes = ⊥

-- what the first pass of a lane knows after it took in those of these seats
pub record TookSeats (lane : ℕ) (seats : List SeatState) (k after : Knowledge) : Type 0 where
  pub passes : List Joined
  pub same_number : after.number ≡ k.number
  pub same_opening : after.opening ≡ k.opening
  pub same_mine : after.mine ≡ k.mine
  pub same_made : after.made ≡ k.made
  pub more_joined : after.joined ≡ k.joined ++ passes
  pub of_seats : ArePassesOn lane seats passes

-- a master after it took in these seats
pub record AreTakenIn (old new : MasterState) (seats : List SeatState) : Type 0 where
  pub rest_same : new ≡ record old { knows = new.knows }
  pub lanes : AtEach old.knows new.knows (λ lane. TookSeats lane seats)

-- a seat that can be taken in: of these turns, and its passes took in none
pub record IsBack (turns : List TurnId) (seat : SeatState) : Type 0 where
  pub turns' : seat.turns ≡ turns
  pub alone : AllByRecursion (λ (k : Knowledge). k.joined ≡ []) seat.knows
  pub known : length seat.knows ≡ length turns

-- the master after seats were made, when none was yet
abbrev pub with_seats : MasterState → ℕ → MasterState
with_seats master count =
    record master { seats = master.seats + count; knows = map (made_more count) master.knows }
