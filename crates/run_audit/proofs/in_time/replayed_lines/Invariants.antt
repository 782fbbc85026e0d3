use Rattle.std.proofs.Common.{◌≡◌, ◌++◌, drop}
use Rattle.std.specs.List.{flat_map}
use Rattle.transcript.specs.Lines.{lines_from}
use Rattle.run_audit.proofs.in_time.replayed_lines.Given as goal

-- the clients so far, and those that are left
abbrev pub invariant-loop-client : goal.invariant-loop-client
invariant-loop-client l =
    l.all.items ++ flat_map (λ lines. lines) (lines_from l.runs l.client (drop l.client l.scripts))
    ≡ flat_map (λ lines. lines) (lines_from l.runs 0 l.scripts)
