use Rattle.std.proofs.Common.{◌≡◌, ◌++◌, ◌+◌, length}
use Rattle.std.specs.Vec.Iter.{into_iter_items}
use Rattle.hub_multiplexer.specs.Ends.{HasTakenIn}
use Rattle.session_serve.specs.Seats.{AreOfClientsFrom, AreTakenIn}
use Rattle.session_serve.proofs.seats.join_all.Given as goal

-- the seats so far, and those that are left
abbrev pub invariant-loop-seat : goal.invariant-loop-seat
invariant-loop-seat g l = record {
  all : l.yielded ++ into_iter_items l.seat-iterator ≡ into_iter_items l.fn.seats;
  joined : AreTakenIn l.fn.master l.master l.yielded;
  taken_in : (client : _) → AreOfClientsFrom client l.yielded → HasTakenIn client l.fn.master
      → HasTakenIn (client + length l.yielded) l.master;
}
