use Rattle.std.proofs.Common.{◌≡◌, ◌≤◌}
use Rattle.turn_pass.proofs.turn.Turn.take.Given as goal

-- nothing has changed but the count of exchanges in vain
abbrev pub invariant-loop : goal.invariant-loop
invariant-loop g l =
    ((goal.iterator-loop g).can_next l.iterator' × (goal.iterator-loop g).is_finite l.iterator')
    × (l.pass ≡ record l.fn.pass { knows = record l.fn.pass.knows { vain = l.pass.knows.vain } })
    × (l.fn.pass.knows.vain ≤ l.pass.knows.vain)
