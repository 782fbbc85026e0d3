-- The room that serving takes beforehand. What private functions promise one another; no public clause speaks of it.
use Rattle.std.specs.Prelude.{◌≡◌, ℕ, ◌≤◌, List, [], length}
use Rattle.std.specs.List.{AllByRecursion}
use Rattle.std.specs.Vec.{vec_capacity}
use Rattle.turn_pass.specs.Pass.{TurnId}
use Rattle.session_serve.specs.Seats.{AreOfClientsFrom, IsFresh}
use Rattle.session_serve.specs.declared.room.Room.{Room}

-- nothing stands there yet, and there is room for so many
pub record HasRoomFor {I O : Type 0} (count : ℕ) (room : Room I O) : Type 0 where
  pub no_seats : room.seats.items ≡ []
  pub none_running : room.running.items ≡ []
  pub none_done : room.done.items ≡ []
  pub none_served : room.served.items ≡ []
  pub seats' : count ≤ vec_capacity room.seats
  pub running' : count ≤ vec_capacity room.running
  pub done' : count ≤ vec_capacity room.done
  pub served' : count ≤ vec_capacity room.served

-- the same with seats that were made, one for each connection
pub record HasSeats {I O : Type 0} (turns : List TurnId) (room : Room I O) : Type 0 where
  pub fresh : AllByRecursion (IsFresh turns) room.seats.items
  pub clients : AreOfClientsFrom 1 room.seats.items
  pub none_running : room.running.items ≡ []
  pub none_done : room.done.items ≡ []
  pub none_served : room.served.items ≡ []
  pub running' : length room.seats.items ≤ vec_capacity room.running
  pub done' : length room.seats.items ≤ vec_capacity room.done
  pub served' : length room.seats.items ≤ vec_capacity room.served
