use Rattle.std.proofs.Common.{◌≡◌, ◌++◌, ◌+◌, drop}
use Rattle.access_policy.specs.Candidates.{candidates_from}
use Rattle.access_policy.proofs.permitting.judge_of.Given as goal

-- the rules so far, and those of what is left
abbrev pub invariant-loop-i : goal.invariant-loop-i
invariant-loop-i l =
    l.items.items ++ candidates_from (l.i + 1) (drop l.i l.policy) l.client l.board
    ≡ candidates_from 1 l.policy l.client l.board
