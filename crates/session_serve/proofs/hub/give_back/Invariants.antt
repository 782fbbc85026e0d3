use Rattle.std.proofs.Common.{◌≡◌, ◌++◌, ◌+◌, length, vec_capacity}
use Rattle.ipb_outside.specs.Pairs.{Went}
use Rattle.hub_multiplexer.specs.Ends.{HasTakenIn}
use Rattle.session_serve.specs.Hubs.{served_of, pairs_of, seats_of}
use Rattle.session_serve.specs.Seats.{AreOfClientsFrom, AreTakenIn}
use Rattle.session_serve.proofs.hub.give_back.Given as goal

-- the connections so far, and those that are left
abbrev pub invariant-loop-one : goal.invariant-loop-one
invariant-loop-one g l = record {
  all : l.yielded ++ l.one-iterator.rest.items ≡ l.fn.done.items;
  joined : AreTakenIn l.fn.master l.master (seats_of l.yielded);
  taken_in : (client : _) → AreOfClientsFrom client (seats_of l.yielded) → HasTakenIn client l.fn.master
      → HasTakenIn (client + length (seats_of l.yielded)) l.master;
  lines : l.served.items ≡ served_of l.yielded;
  room : vec_capacity l.served ≡ vec_capacity l.fn.served;
  went : Went (g.D.Door.kept l.fn.door) (g.D.Door.kept l.door) (pairs_of l.yielded);
  out : g.D.Door.out l.door + length l.yielded ≡ g.D.Door.out l.fn.door;
  coming : g.D.Door.coming l.door ≡ g.D.Door.coming l.fn.door;
  ports : g.D.Door.ports l.door ≡ g.D.Door.ports l.fn.door;
  faults : g.D.Door.faults l.door ≡ g.D.Door.faults l.fn.door;
}
