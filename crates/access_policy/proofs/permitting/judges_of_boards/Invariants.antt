use Rattle.std.proofs.Common.{◌≡◌, map, take}
use Rattle.access_policy.specs.Candidates.{candidates_from}
use Rattle.access_policy.specs.Decisions.{names_of}
use Rattle.access_policy.proofs.permitting.judges_of_boards.Given as goal

-- the rules of the boards so far
abbrev pub invariant-loop-board : goal.invariant-loop-board
invariant-loop-board l =
    l.all.items ≡ map (candidates_from 1 l.policy l.client) (names_of (take l.board-index l.boards))
