-- What a run printed is judged by its own session.
use Rattle.std.proofs.Common.{◌≡◌, ◌⊎◌, inl, inr, ℕ, ◌<◌, ◌^◌, List, length, ap, sym, ◌∙◌, subst}
use Rattle.std.specs.List.{AllByRecursion}
use Rattle.board_specs.specs.OpeningWords.{OpensOnWords}
use Rattle.board_specs.specs.declared.spec.BoardSpec.{BoardSpec}
use Rattle.world_model.specs.Settings.{Limits}
use Rattle.board_history.specs.Links.{LinkReport}
use Rattle.script_steps.specs.declared.operation.Step.{Step}
use Rattle.script_lang.specs.Document.{SameSession}
use Rattle.script_lang.specs.declared.session.Session.{Session}
use Rattle.script_plans.specs.declared.board_run.BoardRun.{BoardRun}
use Rattle.session_input.specs.Deserved.{IsRunnable}
use Rattle.transcript.specs.Lines.{transcript_of}
use Rattle.transcript.specs.Text.{transcript_text}
use Rattle.transcript_reader.specs.declared.shown.Shown.{Shown}
use Rattle.transcript_reader.specs.Faults.{IsFaultAt}
use Rattle.transcript_reader.specs.Shown.{HaveNames, IsShownBy}
use Rattle.run_audit.specs.declared.verdict.AuditWhy.{AuditWhy}
use Rattle.run_audit.specs.declared.verdict.AuditWhy.TheVariants.{Form, Partial, Place, Result, Count}
use Rattle.run_audit.specs.declared.verdict.Verdict.{Verdict}
use Rattle.run_audit.specs.declared.verdict.Verdict.TheVariants.{Yes, No}
use Rattle.run_audit.specs.Counts.{IsMiscountedAt}
use Rattle.run_audit.specs.Places.{IsMisplacedAt, IsPartialAt}
use Rattle.run_audit.specs.Results.{IsWrongAt}
use Rattle.run_audit.specs.Verdicts.{Breaks, BreaksFirst, CanBeAudited, IsVerdict}
use Rattle.run_command.specs.Headline.{IsTranscriptOf}
use Rattle.audit_command.specs.Boards.{AreSimulated}
use Rattle.audit_command.specs.Headline.{IsAuditOf}
use Rattle.audit_command.specs.Input.{HasParts}
use Rattle.audit_command.specs.Lines.{verdict_line}
use Rattle.audit_laws.specs.Audited.{AllTell, IsToldRun, IsYesOrPartial}

-- ---- sessions that are the same have the same verdicts

abbrev pub HasSameNumbers : Session → Session → Type 0
HasSameNumbers s t = (s.settings ≡ t.settings) × (s.boards ≡ t.boards)

back : (s t : Session) → HasSameNumbers s t → HasSameNumbers t s
back s t same = (sym same.0, sym same.1)

same_breaks : (s t : Session) → HasSameNumbers s t → (why : AuditWhy) (scripts : List (List Step)) (shown : Shown)
    (line : ℕ) → Breaks why s scripts shown line → Breaks why t scripts shown line
same_breaks s t same Form scripts shown line broken = broken
same_breaks s t same Partial scripts shown line broken =
    subst (λ (boards : List BoardSpec). IsPartialAt boards scripts shown line) same.1 broken
same_breaks s t same Place scripts shown line broken =
    subst (λ (boards : List BoardSpec). IsMisplacedAt boards scripts shown line) same.1 broken
same_breaks s t same Result scripts shown line broken =
    subst (λ (boards : List BoardSpec). IsWrongAt t.settings.rounds boards scripts shown line) same.1
    (subst (λ (settings : Limits). IsWrongAt settings.rounds s.boards scripts shown line) same.0 broken)
same_breaks s t same Count scripts shown line broken =
    subst (λ (boards : List BoardSpec). IsMiscountedAt boards scripts shown line) same.1 broken

same_shown : (s t : Session) → HasSameNumbers s t → (scripts : List (List Step)) (text : List ℕ) (shown : Shown)
    → IsShownBy s.boards scripts text shown → IsShownBy t.boards scripts text shown
same_shown s t same scripts text shown is =
    subst (λ (boards : List BoardSpec). IsShownBy boards scripts text shown) same.1 is

same_first : (s t : Session) → HasSameNumbers s t → (scripts : List (List Step)) (text : List ℕ) (line : ℕ)
    (why : AuditWhy) → BreaksFirst s scripts text line why → BreaksFirst t scripts text line why
same_first s t same scripts text line why broken = record {
  shown = broken.shown;
  is_shown = same_shown s t same scripts text broken.shown broken.is_shown;
  broken = same_breaks s t same why scripts broken.shown line broken.broken;
  first = λ earlier less breaks.
      broken.first earlier less (same_breaks t s (back s t same) why scripts broken.shown earlier breaks);
  lowest = λ other at lower breaks.
      broken.lowest other at lower (same_breaks t s (back s t same) other scripts broken.shown at breaks);
}

same_verdict : (s t : Session) → HasSameNumbers s t → (scripts : List (List Step)) (text : List ℕ) (verdict : Verdict)
    → IsVerdict s scripts text verdict → IsVerdict t scripts text verdict
same_verdict s t same scripts text Yes fits = record {
  shown = fits.shown;
  is_shown = same_shown s t same scripts text fits.shown fits.is_shown;
  whole = λ why line breaks.
      fits.whole why line (same_breaks t s (back s t same) why scripts fits.shown line breaks);
}
same_verdict s t same scripts text (No line Form) broken =
    subst (λ (boards : List BoardSpec). IsFaultAt boards scripts text line) same.1 broken
same_verdict s t same scripts text (No line Partial) broken = same_first s t same scripts text line Partial broken
same_verdict s t same scripts text (No line Place) broken = same_first s t same scripts text line Place broken
same_verdict s t same scripts text (No line Result) broken = same_first s t same scripts text line Result broken
same_verdict s t same scripts text (No line Count) broken = same_first s t same scripts text line Count broken

-- ---- the laws that this rests on

abbrev pub HasOneDocument : Type 0
HasOneDocument = (bytes document transcript other another : List ℕ) → HasParts bytes document transcript
    → HasParts bytes other another → (document ≡ other) × (transcript ≡ another)

abbrev pub HasOneSession : Type 0
HasOneSession = (bytes : List ℕ) (s t : Session) (steps more : List (List Step))
    → IsRunnable bytes s steps → IsRunnable bytes t more → SameSession s t × (steps ≡ more)

abbrev pub FitsOrIsPartial : Type 0
FitsOrIsPartial = (session : Session) (steps : List (List Step)) (runs : List BoardRun) (links : List LinkReport)
    (verdict : Verdict) → IsToldRun session steps runs links
    → IsVerdict session steps (transcript_text (transcript_of steps runs)) verdict → IsYesOrPartial verdict

-- what every session of simulated boards that can be run keeps
pub record KeepsSessions : Type 0 where
  pub can : (bytes : List ℕ) (session : Session) (steps : List (List Step)) → IsRunnable bytes session steps
      → AreSimulated session.boards → CanBeAudited session steps
  pub names : (bytes : List ℕ) (session : Session) (steps : List (List Step)) → IsRunnable bytes session steps
      → HaveNames session.boards steps
  pub words : (bytes : List ℕ) (session : Session) (steps : List (List Step)) → IsRunnable bytes session steps
      → AllByRecursion OpensOnWords session.boards
  pub rounds : (bytes : List ℕ) (session : Session) (steps : List (List Step)) → IsRunnable bytes session steps
      → session.settings.rounds < 2 ^ 8
  pub clients : (bytes : List ℕ) (session : Session) (steps : List (List Step)) → IsRunnable bytes session steps
      → length steps < 2 ^ 32

-- what an audit says by this line
abbrev SaysYesOrPartial : List ℕ → Type 0
SaysYesOrPartial answer = (answer ≡ verdict_line Yes) ⊎ ((line : ℕ) × (answer ≡ verdict_line (No line Partial)))

said_so : (verdict : Verdict) (answer : List ℕ) → answer ≡ verdict_line verdict → IsYesOrPartial verdict
    → SaysYesOrPartial answer
said_so verdict answer is (inl fits) = inl (is ∙ ap verdict_line fits)
said_so verdict answer is (inr some) = inr (some.0, is ∙ ap verdict_line some.1)

module _ (documents : HasOneDocument) (sessions : HasOneSession) (fits : FitsOrIsPartial) (keeps : KeepsSessions) where
  -- the session of the audit is that of the run
  judged : (bytes input text answer : List ℕ) (links : List LinkReport) (status told : ℕ)
      (run : IsTranscriptOf bytes links status text) (audit : IsAuditOf input told answer) → HasParts input bytes text
      → SameSession audit.session run.session × (audit.steps ≡ run.steps) × (audit.transcript ≡ text)
  judged bytes input text answer links status told run audit parts =
      let same = documents input audit.input.document audit.transcript bytes text audit.input.parts parts in
      let runnable : IsRunnable bytes audit.session audit.steps =
      subst (λ (document : List ℕ). IsRunnable document audit.session audit.steps) same.0 audit.input.runnable in
      let one = sessions bytes audit.session run.session audit.steps run.steps runnable run.runnable in
      (one.0, one.1, same.1)

  told_run : (bytes text : List ℕ) (links : List LinkReport) (status : ℕ) (run : IsTranscriptOf bytes links status text)
      → AllTell links → AreSimulated run.session.boards → IsToldRun run.session run.steps run.runs links
  told_run bytes text links status run all simulated = record {
    can = keeps.can bytes run.session run.steps run.runnable simulated;
    names = keeps.names bytes run.session run.steps run.runnable;
    words = keeps.words bytes run.session run.steps run.runnable;
    few_rounds = keeps.rounds bytes run.session run.steps run.runnable;
    few_clients = keeps.clients bytes run.session run.steps run.runnable;
    run = run.run;
    told = all;
  }

  found_of : (bytes input text answer : List ℕ) (links : List LinkReport) (status told : ℕ)
      (run : IsTranscriptOf bytes links status text) (audit : IsAuditOf input told answer)
      → SameSession audit.session run.session → audit.steps ≡ run.steps → audit.transcript ≡ text
      → IsVerdict run.session run.steps (transcript_text (transcript_of run.steps run.runs)) audit.verdict
  found_of bytes input text answer links status told run audit same steps transcript =
      let moved =
      same_verdict audit.session run.session (same.settings, same.boards) audit.steps audit.transcript audit.verdict
      audit.found in
      subst (λ (shown : List ℕ). IsVerdict run.session run.steps shown audit.verdict) (transcript ∙ run.spelled)
      (subst (λ (scripts : List (List Step)). IsVerdict run.session scripts audit.transcript audit.verdict) steps moved)

  pub yes_or_partial : (bytes input text answer : List ℕ) (links : List LinkReport) (status told : ℕ)
      → IsTranscriptOf bytes links status text → AllTell links → HasParts input bytes text
      → IsAuditOf input told answer → SaysYesOrPartial answer
  yes_or_partial bytes input text answer links status told run all parts audit =
      let one = judged bytes input text answer links status told run audit parts in
      let simulated : AreSimulated run.session.boards = subst AreSimulated one.0.boards audit.input.simulated in
      said_so audit.verdict answer audit.spelled
      (fits run.session run.steps run.runs links audit.verdict (told_run bytes text links status run all simulated)
      (found_of bytes input text answer links status told run audit one.0 one.1 one.2))
