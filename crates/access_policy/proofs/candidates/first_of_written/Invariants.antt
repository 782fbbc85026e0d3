use Rattle.std.proofs.Common.{◌≡◌, drop}
use Rattle.access_policy.specs.Candidates as of
use Rattle.access_policy.specs.Names.{items_of}
use Rattle.access_policy.proofs.candidates.first_of_written.Given as goal

-- what is left says what all of them say
abbrev pub invariant-loop-candidate : goal.invariant-loop-candidate
invariant-loop-candidate l =
    of.first_of l.access (items_of l.name) (drop l.candidate-index l.rules) ≡ of.first_of l.access (items_of l.name) l.rules
