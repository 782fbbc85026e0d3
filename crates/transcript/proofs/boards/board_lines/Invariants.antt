use Rattle.std.proofs.Common.{◌≡◌, ◌≤◌, ◌++◌, drop, length, map, vec_len, vec_capacity}
use Rattle.transcript.specs.Lines as spec
use Rattle.transcript.proofs.boards.board_lines.Given as goal

-- the lines so far, and the boards that are left, and room for these
abbrev pub invariant-loop-run : goal.invariant-loop-run
invariant-loop-run l =
    (l.lines.items ++ map spec.board_line (drop l.run-index l.runs) ≡ map spec.board_line l.runs)
    × (vec_len l.lines ≡ l.run-index)
    × (length l.runs ≤ vec_capacity l.lines)
