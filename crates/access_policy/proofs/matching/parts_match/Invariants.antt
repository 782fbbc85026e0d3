use Rattle.std.proofs.Common.{◌≡◌, drop}
use Rattle.access_policy.specs.Patterns.{items_match}
use Rattle.access_policy.proofs.matching.parts_match.Given as goal

-- what is left matches as the whole does
abbrev pub invariant-loop-i : goal.invariant-loop-i
invariant-loop-i l =
    items_match (drop l.i l.patterns) l.rest (drop l.i l.parts) ≡ items_match l.patterns l.rest l.parts
