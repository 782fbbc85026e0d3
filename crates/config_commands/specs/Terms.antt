-- What `save` and `apply` owe to their input. Profile.
use Rattle.std.specs.Prelude.{◌≡◌, ℕ, Some, List, true, false}
use Rattle.script_steps.specs.declared.operation.Step.{Step}
use Rattle.script_lang.specs.declared.session.Session.{Session}
use Rattle.session_input.specs.Numbers.{document_bytes}
use Rattle.command_terms.specs.Documents.{long_document_line}
use Rattle.command_terms.specs.Terms.{Terms}
use Rattle.config_input.specs.declared.refusal.ConfigRefusal.{ConfigRefusal}
use Rattle.config_input.specs.Deserved.{Deserves, IsApplicable, IsSavable}
use Rattle.config_input.specs.Lines.{refusal_line}
use Rattle.config_input.specs.Work.{ConfigCommand, apply_command, save_command}
use Rattle.config_commands.specs.Applied.{IsAppliedBy}
use Rattle.config_commands.specs.Saved.{IsSavedBy}
use Rattle.config_commands.specs.Written.{RanSomeFor}

-- the bytes deserve a refusal of a command, and this is its line
pub record IsRefusedBy (command : ConfigCommand) (bytes line : List ℕ) : Type 0 where
  pub refusal : ConfigRefusal
  pub deserved : Deserves command bytes refusal
  pub spelled : line ≡ refusal_line refusal

-- `save` takes a document, which is refused by the first rule that it breaks, reads the kept registers of its boards over
-- links that the rack makes, and writes the text of their values.
abbrev pub save_terms : Terms
save_terms = record {
  limit = Some document_bytes;
  makes_links = true;
  lets_in = false;
  long_line = long_document_line;
  Right = λ bytes. (session : Session) × (steps : List (List Step)) × IsSavable bytes session steps;
  Refuses = IsRefusedBy save_command;
  Done = λ bytes given status text. IsSavedBy bytes given.links status text;
  Uses = RanSomeFor save_command;
}

-- `apply` takes a document with values under the key `state`, writes these before it reads the kept registers, and writes
-- the text of what it read.
abbrev pub apply_terms : Terms
apply_terms = record {
  limit = Some document_bytes;
  makes_links = true;
  lets_in = false;
  long_line = long_document_line;
  Right = λ bytes. (session : Session) × (steps : List (List Step)) × IsApplicable bytes session steps;
  Refuses = IsRefusedBy apply_command;
  Done = λ bytes given status text. IsAppliedBy bytes given.links status text;
  Uses = RanSomeFor apply_command;
}
