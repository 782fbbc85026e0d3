use Rattle.std.proofs.Common.{◌≡◌, ◌≤◌, [], length, vec_len, vec_capacity}
use Rattle.std.specs.List.{AllByRecursion}
use Rattle.client_threads.proofs.job.no_outcomes.Given as goal

-- so many lanes have none
abbrev pub invariant-loop : goal.invariant-loop
invariant-loop l =
    (vec_len l.made ≡ l.counter)
    × (l.lanes ≤ vec_capacity l.made)
    × (length l.made.items ≡ l.counter)
    × AllByRecursion (λ outcomes. outcomes ≡ []) l.made.items
