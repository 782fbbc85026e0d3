use Rattle.std.proofs.Common.{◌≡◌, ◌+◌, drop}
use Rattle.access_policy.specs.Decisions.{access_decision, decision_from, speaks_of}
use Rattle.access_policy.specs.Names.{items_of}
use Rattle.access_policy.proofs.deciding.decide_access.Given as goal

-- what is left decides as the whole does
abbrev pub invariant-loop-i : goal.invariant-loop-i
invariant-loop-i l =
    decision_from (speaks_of l.access l.client l.board (items_of l.name)) (l.i + 1) (drop l.i l.policy)
    ≡ access_decision l.policy l.client l.board (items_of l.name) l.access
