use Rattle.std.proofs.Common.{◌≡◌, ◌≤◌, ◌++◌, drop, length, vec_len, vec_capacity}
use Rattle.script_plans.specs.Plan.{AreSpelled}
use Rattle.transcript.specs.Ends as spec
use Rattle.transcript.proofs.body_end.ends_of.Given as goal

-- how the bodies so far ended, and those that are left, and room for these
abbrev pub invariant-loop-i : goal.invariant-loop-i
invariant-loop-i l = record {
  ends : l.ends.items ++ spec.ends_with (drop l.i l.bodies) (drop l.i l.outcomes) (drop l.i l.lates)
      ≡ spec.ends_with l.bodies l.outcomes l.lates;
  spelled : AreSpelled (drop l.i l.bodies);
  count : vec_len l.ends ≡ l.i;
  room : length l.bodies ≤ vec_capacity l.ends;
}
