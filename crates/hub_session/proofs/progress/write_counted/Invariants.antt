-- The first `done` bytes were written, in their order, and nothing else.
use Rattle.std.proofs.Common.{◌≡◌, ◌-◌, ◌≤◌, length, take}
use Rattle.std.specs.Io.KnownBytes.{append_known}
use Rattle.hub_session.proofs.progress.write_counted.Given as goal

abbrev pub invariant-writing : goal.invariant-writing
invariant-writing g l = record {
  within : l.done ≤ length l.bytes;
  so_far : g.O.Sink.written l.sink ≡ append_known (g.O.Sink.written l.initial.sink) (take l.done l.bytes);
  unfaulted : g.O.Sink.faults l.sink ≡ g.O.Sink.faults l.initial.sink;
}

abbrev pub decreases-writing : goal.decreases-writing
decreases-writing g l = length l.bytes - l.done
