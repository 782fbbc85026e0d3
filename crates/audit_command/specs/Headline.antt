-- WHAT `audit` MAKES OF AN INPUT: the verdict on its transcript. Profile.
use Rattle.std.specs.Prelude.{◌≡◌, ℕ, List}
use Rattle.script_steps.specs.declared.operation.Step.{Step}
use Rattle.script_lang.specs.declared.session.Session.{Session}
use Rattle.command_terms.specs.Numbers.{done_status, not_all_done_status}
use Rattle.run_audit.specs.declared.verdict.Verdict.{Verdict}
use Rattle.run_audit.specs.declared.verdict.Verdict.TheVariants.{Yes, No}
use Rattle.run_audit.specs.Verdicts.{IsVerdict}
use Rattle.audit_command.specs.declared.refusal.AuditRefusal.{AuditRefusal}
use Rattle.audit_command.specs.Input.{Deserves, IsInput}
use Rattle.audit_command.specs.Lines.{refusal_line, verdict_line}

-- 0 where the transcript fits the session
abbrev pub verdict_status : Verdict → ℕ
verdict_status Yes = done_status
verdict_status (No line why) = not_all_done_status

-- THE AUDIT OF AN INPUT: its transcript has this verdict on its session, whose line and status these are.
pub record IsAuditOf (bytes : List ℕ) (status : ℕ) (text : List ℕ) : Type 0 where
  pub session : Session
  pub steps : List (List Step)
  pub transcript : List ℕ
  pub input : IsInput bytes session steps transcript
  pub verdict : Verdict
  pub found : IsVerdict session steps transcript verdict
  pub spelled : text ≡ verdict_line verdict
  pub told : status ≡ verdict_status verdict

-- the bytes deserve a refusal, and this is its line
pub record IsRefused (bytes line : List ℕ) : Type 0 where
  pub refusal : AuditRefusal
  pub deserved : Deserves bytes refusal
  pub spelled : line ≡ refusal_line refusal
