use Rattle.std.proofs.Common.{◌≡◌, ◌≤◌, ◌++◌, drop, length, map, vec_len, vec_capacity}
use Rattle.transcript.specs.Lines as spec
use Rattle.transcript.proofs.lines.lines_of_clients.Given as goal

-- the lines so far, and the clients that are left, and room for these
abbrev pub invariant-loop-client : goal.invariant-loop-client
invariant-loop-client l =
    (map (λ lines. lines.items) l.all.items ++ spec.lines_from l.runs l.client (drop l.client l.scripts)
    ≡ spec.lines_from l.runs 0 l.scripts)
    × (vec_len l.all ≡ l.client)
    × (length l.scripts ≤ vec_capacity l.all)
