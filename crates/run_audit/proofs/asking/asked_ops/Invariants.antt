use Rattle.std.proofs.Common.{◌≡◌, ◌+◌, ◌++◌, drop, length, map}
use Rattle.transcript_reader.specs.Entries.{clients_from}
use Rattle.run_audit.specs.AskedLines.{asked_lines, asked_from}
use Rattle.run_audit.specs.Steps.{asking}
use Rattle.run_audit.proofs.asking.asked_ops.Given as goal

-- the operations so far, and the clients that are left
abbrev pub invariant-loop-client : goal.invariant-loop-client
invariant-loop-client l = record {
  lines : map asking l.all.items ++ asked_from l.heading l.client (drop l.client l.scripts)
      (drop l.client l.shown.clients) ≡ asked_lines l.scripts l.shown;
  left : l.heading + length (clients_from (l.client + 1) (drop l.client l.scripts))
      ≡ 1 + length (clients_from 1 l.scripts);
}
