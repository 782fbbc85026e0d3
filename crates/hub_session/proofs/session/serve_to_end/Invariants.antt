use Rattle.std.proofs.Common.{◌≡◌, ◌<◌, length}
use Rattle.std.specs.List.{AllByRecursion}
use Rattle.hub_framing.specs.Frames.{IsBegun}
use Rattle.hub_session.specs.Inside.{GoesOn, IsSameSeat, IsSettled, NoneWaits, standing}
use Rattle.hub_session.proofs.session.serve_to_end.Given as goal

-- the connection went on, no answer waits to be written, and no fault came
abbrev pub invariant-loop : goal.invariant-loop
invariant-loop g l =
    ((goal.iterator-loop g).can_next l.iterator' × (goal.iterator-loop g).is_finite l.iterator')
    × IsSameSeat l.fn.seat l.seat
    × AllByRecursion IsSettled l.seat.knows
    × IsBegun l.progress.framer
    × NoneWaits l.progress
    × GoesOn l.boards.map.now
    (standing l.fn.seat (g.S.Source.left l.fn.src) (g.O.Sink.written l.fn.sink) l.fn.progress.framer l.fn.progress)
    (standing l.seat (g.S.Source.left l.src) (g.O.Sink.written l.sink) l.progress.framer l.progress)
    × (g.S.Source.faults l.src ≡ g.S.Source.faults l.fn.src)
    × (g.O.Sink.faults l.sink ≡ g.O.Sink.faults l.fn.sink)
    × (0 < length l.buf)
