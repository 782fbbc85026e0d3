use Rattle.std.proofs.Common.{◌≡◌, length, vec_capacity}
use Rattle.std.specs.List.{AllByRecursion}
use Rattle.hub_multiplexer.specs.Ends.{HasTakenIn}
use Rattle.session_serve.specs.Seats.{AreOfClientsFrom, IsFresh, with_seats}
use Rattle.session_serve.proofs.seats.seat_all.Given as goal

-- the seats so far
abbrev pub invariant-loop : goal.invariant-loop
invariant-loop g l = record {
  fresh : AllByRecursion (IsFresh l.hub.turns) l.seats.items;
  clients : AreOfClientsFrom 1 l.seats.items;
  many : length l.seats.items ≡ l.counter;
  made : l.master ≡ with_seats l.initial.master (length l.seats.items);
  room : vec_capacity l.seats ≡ vec_capacity l.initial.seats;
  taken_in : (n : _) → HasTakenIn n l.initial.master → HasTakenIn n l.master;
}
