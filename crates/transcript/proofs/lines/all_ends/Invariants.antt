use Rattle.std.proofs.Common.{◌≡◌, ◌≤◌, ◌++◌, drop, length, map, vec_len, vec_capacity}
use Rattle.transcript.specs.Steps.{ends_on}
use Rattle.transcript.proofs.lines.all_ends.Given as goal

-- what there is so far, and the boards that are left, and room for these
abbrev pub invariant-loop-run : goal.invariant-loop-run
invariant-loop-run l =
    (map (λ ends. ends.items) l.all.items ++ map (ends_on l.client) (drop l.run-index l.runs)
    ≡ map (ends_on l.client) l.runs)
    × (vec_len l.all ≡ l.run-index)
    × (length l.runs ≤ vec_capacity l.all)
