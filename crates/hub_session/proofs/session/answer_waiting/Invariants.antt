use Rattle.std.proofs.Common.{◌≡◌, List, ℕ, Option}
use Rattle.std.specs.List.{AllByRecursion}
use Rattle.hub_session.specs.Inside.{GoesOn, IsSameSeat, IsSettled, standing}
use Rattle.hub_session.proofs.session.answer_waiting.Given as goal

-- the connection went on, and no fault came
abbrev pub invariant-loop : goal.invariant-loop
invariant-loop g l =
    ((goal.iterator-loop g).can_next l.iterator' × (goal.iterator-loop g).is_finite l.iterator')
    × IsSameSeat l.fn.seat l.seat
    × AllByRecursion IsSettled l.seat.knows
    × ((left : Option (List ℕ)) → GoesOn l.boards.map.now
    (standing l.fn.seat left (g.O.Sink.written l.fn.sink) l.fn.progress.framer l.fn.progress)
    (standing l.seat left (g.O.Sink.written l.sink) l.progress.framer l.progress))
    × (g.O.Sink.faults l.sink ≡ g.O.Sink.faults l.fn.sink)
