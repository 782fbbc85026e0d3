use Rattle.std.proofs.Common.{◌≡◌, sum_by, take}
use Rattle.record_command.specs.Headline as spec
use Rattle.record_command.proofs.record.body_count.Given as goal

abbrev pub invariant-loop-run : goal.invariant-loop-run
invariant-loop-run l = l.count ≡ sum_by spec.bodies_of_run (take l.run-index l.runs)
