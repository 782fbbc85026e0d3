-- What `audit` owes, put together from what its steps say.
use Rattle.std.proofs.Common.{◌≡◌, ◌∙◌, ℕ, List, [], Option, Some, Result, Ok, Err, IfOk, inl, inr, sym, ap}
use Rattle.ipb_base.specs.declared.no_memory.NoMemory.{NoMemory}
use Rattle.script_steps.specs.declared.operation.Step.{Step}
use Rattle.script_lang.specs.declared.session.Session.{Session}
use Rattle.command_terms.specs.Numbers.{IsDoneStatus, refused_status}
use Rattle.command_terms.specs.Outside.{no_pairs}
use Rattle.command_terms.specs.Terms.{Owes}
use Rattle.command_terms.specs.declared.answer.Answer.{Answer}
use Rattle.run_audit.specs.Verdicts.{IsVerdict}
use Rattle.run_audit.specs.declared.verdict.Verdict.{Verdict}
use Rattle.run_audit.specs.declared.verdict.Verdict.TheVariants.{Yes, No}
use Rattle.audit_command.specs.declared.refusal.AuditRefusal.{AuditRefusal}
use Rattle.audit_command.specs.Headline.{IsRefused, verdict_status}
use Rattle.audit_command.specs.Input.{Deserves, IsInput}
use Rattle.audit_command.specs.Lines.{refusal_line, verdict_line}
use Rattle.audit_command.specs.Numbers.{audit_bytes}
use Rattle.audit_command.specs.Terms.{audit_terms}

pub owed_verdict : (bytes : List ℕ) (session : Session) (steps : List (List Step)) (transcript : List ℕ)
    → IsInput bytes session steps transcript → (verdict : Verdict) → IsVerdict session steps transcript verdict
    → (result : Result Answer NoMemory) → IfOk result (λ answer. answer.status ≡ verdict_status verdict)
    → IfOk result (λ answer. answer.text.items ≡ verdict_line verdict)
    → IfOk result (λ answer. Owes audit_terms bytes (no_pairs []) answer.status answer.text.items)
owed_verdict bytes session steps transcript input verdict found (Ok answer) status text =
    inl (record {
      session = session;
      steps = steps;
      transcript = transcript;
      input = input;
      verdict = verdict;
      found = found;
      spelled = text;
      told = status;
    })
owed_verdict bytes session steps transcript input verdict found (Err why) status text = tt

pub owed_refusal : (bytes : List ℕ) (refusal : AuditRefusal) → Deserves bytes refusal
    → (result : Result Answer NoMemory) → IfOk result (λ answer. answer.status ≡ refused_status)
    → IfOk result (λ answer. answer.text.items ≡ refusal_line refusal)
    → IfOk result (λ answer. Owes audit_terms bytes (no_pairs []) answer.status answer.text.items)
owed_refusal bytes refusal deserved (Ok answer) status text =
    inr (status, record { refusal = refusal; deserved = deserved; spelled = text })
owed_refusal bytes refusal deserved (Err why) status text = tt

pub done_by : (verdict : Verdict) (status : ℕ) → status ≡ verdict_status verdict → IsDoneStatus status
done_by Yes status is = inl is
done_by (No line why) status is = inr is

pub one_line : ((bytes : List ℕ) (r q : AuditRefusal) → Deserves bytes r → Deserves bytes q → r ≡ q)
    → (bytes line other : List ℕ) → IsRefused bytes line → IsRefused bytes other → line ≡ other
one_line one bytes line other first second =
    first.spelled
    ∙ (ap refusal_line (one bytes first.refusal second.refusal first.deserved second.deserved) ∙ sym second.spelled)

pub same_limit : (limit : ℕ) → ◌≡◌ {A = Option ℕ} (Some audit_bytes) (Some limit) → limit ≡ audit_bytes
same_limit limit is = cc
