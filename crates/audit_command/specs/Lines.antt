-- The lines that `audit` writes. Each ends with a line feed. Profile.
use Rattle.std.specs.Prelude.{ℕ, List, ◌++◌, codes}
use Rattle.std.specs.Fmt.{decimal}
use Rattle.session_input.specs.Lines as session
use Rattle.run_audit.specs.declared.verdict.AuditWhy.{AuditWhy}
use Rattle.run_audit.specs.declared.verdict.AuditWhy.TheVariants.{Form, Partial, Place, Result, Count}
use Rattle.run_audit.specs.declared.verdict.Verdict.{Verdict}
use Rattle.run_audit.specs.declared.verdict.Verdict.TheVariants.{Yes, No}
use Rattle.audit_command.specs.declared.refusal.AuditRefusal.{AuditRefusal}
use Rattle.audit_command.specs.declared.refusal.AuditRefusal.TheVariants.{NoLength, OfSession}

-- the names of the rules of transcripts
abbrev pub audit_rule : AuditWhy → List ℕ
audit_rule Form = codes "Form"
audit_rule Partial = codes "Partial"
audit_rule Place = codes "Place"
audit_rule Result = codes "Result"
audit_rule Count = codes "Count"

abbrev pub verdict_line : Verdict → List ℕ
verdict_line Yes = codes "audit yes\n"
verdict_line (No line why) = codes "audit no " ++ (decimal line ++ (codes " " ++ (audit_rule why ++ codes "\n")))

abbrev pub refusal_line : AuditRefusal → List ℕ
refusal_line NoLength = codes "refused: document - NoLength\n"
refusal_line (OfSession refusal) = session.refusal_line refusal
