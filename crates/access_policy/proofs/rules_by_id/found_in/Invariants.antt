use Rattle.std.proofs.Common.{◌≡◌, drop}
use Rattle.access_policy.specs.ById as spec
use Rattle.access_policy.proofs.rules_by_id.found_in.Given as goal

-- what is left finds what all of them find
abbrev pub invariant-loop-candidate : goal.invariant-loop-candidate
invariant-loop-candidate l =
    spec.found_in l.access l.parts (drop l.candidate-index l.rules) ≡ spec.found_in l.access l.parts l.rules
