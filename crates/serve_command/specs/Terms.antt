-- What `serve` owes to its input. Profile.
use Rattle.std.specs.Prelude.{ℕ, Some, true}
use Rattle.script_lang.specs.declared.session.Session.{Session}
use Rattle.session_input.specs.Deserved.{BreaksInServe, IsServable}
use Rattle.session_input.specs.Numbers.{document_bytes}
use Rattle.command_terms.specs.Documents.{IsRefusedDocument, long_document_line}
use Rattle.command_terms.specs.Terms.{Terms}
use Rattle.serve_command.specs.Serving.{IsLinkedTo, IsServiceOf}

-- It takes a document, which is refused by the first rule that it breaks, lets so many connections in, serves them at the
-- boards of the document over links that the rack makes, and writes a line for each of them and each board.
abbrev pub serve_terms : ℕ → Terms
serve_terms count = record {
  limit = Some document_bytes;
  makes_links = true;
  lets_in = true;
  long_line = long_document_line;
  Right = λ bytes. (session : Session) × IsServable bytes session;
  Refuses = IsRefusedDocument BreaksInServe;
  Done = λ bytes given status text. IsServiceOf bytes count given.links given.came given.back status text;
  Uses = IsLinkedTo;
}
