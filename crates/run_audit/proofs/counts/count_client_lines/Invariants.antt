use Rattle.std.proofs.Common.{◌≡◌, ◌+◌, drop, length}
use Rattle.transcript_reader.specs.Entries.{clients_from}
use Rattle.run_audit.proofs.counts.count_client_lines.Given as goal

-- the lines so far, and those of the clients that are left
abbrev pub invariant-loop-steps : goal.invariant-loop-steps
invariant-loop-steps l =
    l.lines + length (clients_from (l.steps-index + 1) (drop l.steps-index l.scripts)) ≡ length (clients_from 1 l.scripts)
