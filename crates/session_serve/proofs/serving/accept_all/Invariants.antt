use Rattle.std.proofs.Common.{◌≡◌, ◌≤◌, ◌+◌, ◌++◌, length, map, vec_capacity}
use Rattle.std.specs.List.{AllByRecursion}
use Rattle.std.specs.Vec.Iter.{into_iter_items}
use Rattle.ipb_outside.specs.Pairs.{Came}
use Rattle.session_serve.proofs.serving.accept_all.Given as goal

-- the connections so far, and the seats that are left
abbrev pub invariant-loop : goal.invariant-loop
invariant-loop g l = record {
  came : Came (g.D.Door.coming l.initial.door) (g.D.Door.coming l.door) (map (λ r. r.pair) l.running.items);
  seats' : into_iter_items l.initial.seats ≡ map (λ r. r.seat) l.running.items ++ into_iter_items l.seats;
  boards : AllByRecursion (λ r. r.boards ≡ l.states) l.running.items;
  so_many : length l.running.items ≡ l.counter;
  room : length (into_iter_items l.initial.seats) ≤ vec_capacity l.running;
  out : g.D.Door.out l.door ≡ g.D.Door.out l.initial.door + length l.running.items;
  kept : g.D.Door.kept l.door ≡ g.D.Door.kept l.initial.door;
  ports : g.D.Door.ports l.door ≡ g.D.Door.ports l.initial.door;
  faults : g.D.Door.faults l.door ≡ g.D.Door.faults l.initial.door;
}
