-- What `record` owes to its input. Profile.
use Rattle.std.specs.Prelude.{Some, List, true, false}
use Rattle.script_steps.specs.declared.operation.Step.{Step}
use Rattle.script_lang.specs.declared.session.Session.{Session}
use Rattle.session_input.specs.Recording.{BreaksInRecord, IsRecordable}
use Rattle.session_input.specs.Numbers.{document_bytes}
use Rattle.command_terms.specs.Documents.{IsRefusedDocument, long_document_line}
use Rattle.command_terms.specs.Terms.{Terms}
use Rattle.record_command.specs.Headline.{IsRecordOf, RecordedSomeOf}

-- It takes a document, which is refused by the first rule that it breaks, runs its scripts over a link that the rack
-- makes, and writes the capture of that link.
abbrev pub record_terms : Terms
record_terms = record {
  limit = Some document_bytes;
  makes_links = true;
  lets_in = false;
  long_line = long_document_line;
  Right = λ bytes. (session : Session) × (steps : List (List Step)) × IsRecordable bytes session steps;
  Refuses = IsRefusedDocument BreaksInRecord;
  Done = λ bytes given status text. IsRecordOf bytes given.links status text;
  Uses = RecordedSomeOf;
}
