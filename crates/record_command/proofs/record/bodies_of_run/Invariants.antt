use Rattle.std.proofs.Common.{◌≡◌, sum_by, take}
use Rattle.record_command.specs.Headline as spec
use Rattle.record_command.proofs.record.bodies_of_run.Given as goal

abbrev pub invariant-loop-part : goal.invariant-loop-part
invariant-loop-part l = l.count ≡ sum_by spec.bodies_of_part (take l.part-index l.part-items)
