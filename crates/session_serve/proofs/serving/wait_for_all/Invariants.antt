use Rattle.std.proofs.Common.{◌≡◌, ◌++◌, length, vec_capacity}
use Rattle.std.specs.List.{AllZip}
use Rattle.ipb_outside.specs.Pairs.{pair_shown}
use Rattle.session_serve.specs.Seats.{IsDoneOf}
use Rattle.session_serve.proofs.serving.wait_for_all.Given as goal

-- the connections so far, and those that are left
abbrev pub invariant-loop-one : goal.invariant-loop-one
invariant-loop-one g l = record {
  all : l.yielded ++ l.one-iterator.rest.items ≡ l.fn.running.items;
  done' : AllZip (IsDoneOf (pair_shown g.S.Source g.O.Sink)) l.yielded l.done.items;
  room : vec_capacity l.done ≡ vec_capacity l.fn.done;
  so_many : length l.done.items ≡ length l.yielded;
}
