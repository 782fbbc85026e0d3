use Rattle.std.proofs.Common.{◌≡◌, drop}
use Rattle.access_policy.specs.Candidates as of
use Rattle.access_policy.proofs.candidates.first_of_cut.Given as goal

-- what is left says what all of them say
abbrev pub invariant-loop-candidate : goal.invariant-loop-candidate
invariant-loop-candidate l =
    of.first_of l.access l.parts (drop l.candidate-index l.rules) ≡ of.first_of l.access l.parts l.rules
