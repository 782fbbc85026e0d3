use Rattle.std.proofs.Common.{◌≡◌, ◌+◌, ◌++◌, drop, string_bytes}
use Rattle.std.specs.Prelude.{◌&&◌}
use Rattle.transcript.specs.Lines as spec
use Rattle.transcript.specs.Text as texts
use Rattle.transcript.proofs.printing.Printer.print_clients.Given as goal

-- the text so far, and the clients that are left
abbrev pub invariant-loop-client : goal.invariant-loop-client
invariant-loop-client l = record {
  text' : string_bytes l.self.text
      ++ texts.clients_text (l.client + 1) (spec.lines_from l.runs l.client (drop l.client l.scripts))
      ≡ string_bytes l.fn.self.text ++ texts.clients_text 1 (spec.lines_from l.runs 0 l.scripts);
  good : (l.self.all_good && spec.all_good (spec.lines_from l.runs l.client (drop l.client l.scripts)))
      ≡ (l.fn.self.all_good && spec.all_good (spec.lines_from l.runs 0 l.scripts));
}
