-- What `audit` owes to its input. It makes no link and lets no client in. Profile.
use Rattle.std.specs.Prelude.{ℕ, false, List, Some}
use Rattle.script_steps.specs.declared.operation.Step.{Step}
use Rattle.script_lang.specs.declared.session.Session.{Session}
use Rattle.session_input.specs.declared.refusal.Refusal.TheVariants.{TooLong}
use Rattle.command_terms.specs.Terms.{Terms, uses_none}
use Rattle.audit_command.specs.declared.refusal.AuditRefusal.TheVariants.{OfSession}
use Rattle.audit_command.specs.Headline.{IsAuditOf, IsRefused}
use Rattle.audit_command.specs.Input.{IsInput}
use Rattle.audit_command.specs.Lines.{refusal_line}
use Rattle.audit_command.specs.Numbers.{audit_bytes}

-- a session and a transcript in, the verdict out
abbrev pub audit_terms : Terms
audit_terms = record {
  limit = Some audit_bytes;
  makes_links = false;
  lets_in = false;
  long_line = refusal_line (OfSession TooLong);
  Right = λ bytes. (session : Session) × (steps : List (List Step)) × (transcript : List ℕ)
      × IsInput bytes session steps transcript;
  Refuses = IsRefused;
  Done = λ bytes given status text. IsAuditOf bytes status text;
  Uses = uses_none;
}
