-- Nothing that contracts see of the output changes.
use Rattle.std.proofs.Common.{◌≡◌}
use Rattle.ipbus_program.proofs.program.say_all.Given as goal

abbrev pub invariant-loop-line : goal.invariant-loop-line
invariant-loop-line g l = record {
  written_kept : g.O.Sink.written l.out ≡ g.O.Sink.written l.initial.out;
  faults_kept : g.O.Sink.faults l.out ≡ g.O.Sink.faults l.initial.out;
  ended_kept : g.O.Sink.ended l.out ≡ g.O.Sink.ended l.initial.out;
}
