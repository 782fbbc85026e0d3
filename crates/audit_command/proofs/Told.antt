-- What is told of a document is told of the input that has it.
use Rattle.std.proofs.Common.{◌≡◌, List, ℕ, Result, Ok, Err, IfErr, inr, sym, subst}
use Rattle.std.specs.Prelude.{IsErrAnd}
use Rattle.session_input.specs.Deserved as input
use Rattle.session_input.specs.declared.refusal.Unread.{Unread}
use Rattle.session_input.specs.declared.refusal.Unread.TheVariants as session
use Rattle.audit_command.specs.declared.refusal.AuditUnread.{AuditUnread}
use Rattle.audit_command.specs.Boards.{BreaksInAudit}
use Rattle.audit_command.specs.Input.{Deserves, HasParts, IsTooLong, Tells, of_session}

pub of_document : (bytes document transcript : List ℕ) → ¬ IsTooLong bytes → HasParts bytes document transcript
    → (u : Unread) → input.Tells (input.Deserves BreaksInAudit document) u → Tells (Deserves bytes) (of_session u)
of_document bytes document transcript fits parts (session.Refused refusal) told =
    inr (record { fits = fits; document = document; transcript = transcript; parts = parts; broken = told })
of_document bytes document transcript fits parts session.NoMemory told = tt

-- an error that is handed on tells what it told
pub handed_on : {X : Type 0} (P : AuditUnread → Type 0) (r : Result X AuditUnread) (u : AuditUnread)
    → IsErrAnd r (λ handed. handed ≡ u) → P u → IfErr r P
handed_on P (Ok x) u is told = tt
handed_on P (Err handed) u is told = subst P (sym is) told
