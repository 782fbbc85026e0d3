-- What `run` owes to its input. Profile.
use Rattle.std.specs.Prelude.{Some, List, true, false}
use Rattle.script_steps.specs.declared.operation.Step.{Step}
use Rattle.script_lang.specs.declared.session.Session.{Session}
use Rattle.session_input.specs.Deserved.{BreaksInRun, IsRunnable}
use Rattle.session_input.specs.Numbers.{document_bytes}
use Rattle.command_terms.specs.Documents.{IsRefusedDocument, long_document_line}
use Rattle.command_terms.specs.Terms.{Terms}
use Rattle.run_command.specs.Headline.{IsTranscriptOf, RanSomeOf}

-- It takes a document, which is refused by the first rule that it breaks, runs its scripts over links that the rack
-- makes, and writes their transcript.
abbrev pub run_terms : Terms
run_terms = record {
  limit = Some document_bytes;
  makes_links = true;
  lets_in = false;
  long_line = long_document_line;
  Right = λ bytes. (session : Session) × (steps : List (List Step)) × IsRunnable bytes session steps;
  Refuses = IsRefusedDocument BreaksInRun;
  Done = λ bytes given status text. IsTranscriptOf bytes given.links status text;
  Uses = RanSomeOf;
}
