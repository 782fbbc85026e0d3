use Rattle.std.proofs.Common.{◌≡◌, ◌+◌, drop, length}
use Rattle.transcript_reader.specs.Entries.{clients_from}
use Rattle.transcript_reader.proofs.greeting.lines_of_clients.Given as goal

-- the lines so far, and those of the clients that are left
abbrev pub invariant-loop-steps : goal.invariant-loop-steps
invariant-loop-steps l =
    l.count + length (clients_from (l.steps-index + 1) (drop l.steps-index l.scripts)) ≡ length (clients_from 1 l.scripts)
