use Rattle.std.proofs.Common.{◌≡◌, ◌++◌, [], drop}
use Rattle.script_plans.specs.Plan.{AreSpelled}
use Rattle.transcript.specs.Ends as spec
use Rattle.run_audit.specs.Agreeing.{HaveNoLate}
use Rattle.run_audit.proofs.agreeing.ends_of.Given as goal

-- how the bodies so far ended, and those that are left
abbrev pub invariant-loop-i : goal.invariant-loop-i
invariant-loop-i l = record {
  ends : l.ends.items ++ spec.ends_with (drop l.i l.bodies) (drop l.i l.outcomes) []
      ≡ spec.ends_with l.bodies l.outcomes [];
  spelled : AreSpelled (drop l.i l.bodies);
  in_time : HaveNoLate (spec.ends_with l.bodies l.outcomes []);
}
