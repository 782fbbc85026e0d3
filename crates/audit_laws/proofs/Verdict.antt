-- The verdict on what a run prints, from what holds of its form, its places, its counts and its results.
use Rattle.std.proofs.Common.{◌≡◌, ℕ, List, refl, sym, subst, inl, inr, arith}
use Rattle.board_history.specs.Links.{LinkReport}
use Rattle.board_specs.specs.declared.spec.BoardSpec.{BoardSpec}
use Rattle.script_lang.specs.declared.session.Session.{Session}
use Rattle.script_steps.specs.declared.operation.Step.{Step}
use Rattle.script_plans.specs.declared.board_run.BoardRun.{BoardRun}
use Rattle.transcript.specs.Lines.{transcript_of}
use Rattle.transcript.specs.Text.{transcript_text}
use Rattle.transcript_reader.specs.declared.shown.Shown.{Shown}
use Rattle.transcript_reader.specs.Faults.{IsFaultAt}
use Rattle.transcript_reader.specs.Shown.{HaveNames, IsShownBy}
use Rattle.run_audit.specs.declared.verdict.AuditWhy.TheVariants.{Form, Partial, Place, Result, Count}
use Rattle.run_audit.specs.declared.verdict.Verdict.{Verdict}
use Rattle.run_audit.specs.declared.verdict.Verdict.TheVariants.{Yes, No}
use Rattle.run_audit.specs.Counts.{IsMiscountedAt}
use Rattle.run_audit.specs.Places.{IsMisplacedAt, IsPartialAt}
use Rattle.run_audit.specs.Results.{IsWrongAt}
use Rattle.run_audit.specs.Verdicts.{Breaks, IsVerdict}
use Rattle.audit_laws.specs.Audited.{IsToldRun, IsYesOrPartial, shown_of}

-- ---- what a transcript's reader promises

abbrev pub OneThing : Type 0
OneThing = (boards : List BoardSpec) (scripts : List (List Step)) (text : List ℕ) (one other : Shown)
    → HaveNames boards scripts → IsShownBy boards scripts text one → IsShownBy boards scripts text other → one ≡ other

abbrev pub NoFault : Type 0
NoFault = (boards : List BoardSpec) (scripts : List (List Step)) (text : List ℕ) (shown : Shown) (line : ℕ)
    → HaveNames boards scripts → IsShownBy boards scripts text shown → ¬ IsFaultAt boards scripts text line

-- ---- what holds of a run over links that tell

abbrev pub FormHolds : Type 0
FormHolds = (session : Session) (steps : List (List Step)) (runs : List BoardRun) (links : List LinkReport)
    → IsToldRun session steps runs links
    → IsShownBy session.boards steps (transcript_text (transcript_of steps runs)) (shown_of (transcript_of steps runs))

-- no line breaks this rule where none is partial
abbrev pub NeverBroken : (Session → List (List Step) → Shown → ℕ → Type 0) → Type 0
NeverBroken Rule = (session : Session) (steps : List (List Step)) (runs : List BoardRun) (links : List LinkReport)
    → IsToldRun session steps runs links
    → ((line : ℕ) → ¬ IsPartialAt session.boards steps (shown_of (transcript_of steps runs)) line) → (line : ℕ)
    → ¬ Rule session steps (shown_of (transcript_of steps runs)) line

abbrev pub PlacesHold : Type 0
PlacesHold = NeverBroken (λ session steps shown line. IsMisplacedAt session.boards steps shown line)

abbrev pub CountsHold : Type 0
CountsHold = NeverBroken (λ session steps shown line. IsMiscountedAt session.boards steps shown line)

abbrev pub ResultsHold : Type 0
ResultsHold =
    NeverBroken (λ session steps shown line. IsWrongAt session.settings.rounds session.boards steps shown line)

-- ---- the verdict

module _ (one_thing : OneThing) (no_fault : NoFault) (form : FormHolds) (places : PlacesHold) (counts : CountsHold)
    (results : ResultsHold) (session : Session) (steps : List (List Step)) (runs : List BoardRun)
    (links : List LinkReport) (told : IsToldRun session steps runs links) where
  -- what the text shows is what the run shows
  same_shown : (shown : Shown) → IsShownBy session.boards steps (transcript_text (transcript_of steps runs)) shown
      → shown ≡ shown_of (transcript_of steps runs)
  same_shown shown is =
      one_thing session.boards steps (transcript_text (transcript_of steps runs)) shown
      (shown_of (transcript_of steps runs)) told.names is (form session steps runs links told)

  verdict_is : (verdict : Verdict) → IsVerdict session steps (transcript_text (transcript_of steps runs)) verdict
      → IsYesOrPartial verdict
  verdict_is Yes is = inl refl
  verdict_is (No line Form) is =
      absurd (no_fault session.boards steps (transcript_text (transcript_of steps runs))
      (shown_of (transcript_of steps runs)) line told.names (form session steps runs links told) is)
  verdict_is (No line Partial) is = inr (line, refl)
  verdict_is (No line Place) is =
      let same = same_shown is.shown is.is_shown in
      absurd (places session steps runs links told
      (λ at partial. is.lowest Partial at (omega arith)
      (subst (λ (s : Shown). Breaks Partial session steps s at) (sym same) partial)) line
      (subst (λ (s : Shown). Breaks Place session steps s line) same is.broken))
  verdict_is (No line Result) is =
      let same = same_shown is.shown is.is_shown in
      absurd (results session steps runs links told
      (λ at partial. is.lowest Partial at (omega arith)
      (subst (λ (s : Shown). Breaks Partial session steps s at) (sym same) partial)) line
      (subst (λ (s : Shown). Breaks Result session steps s line) same is.broken))
  verdict_is (No line Count) is =
      let same = same_shown is.shown is.is_shown in
      absurd (counts session steps runs links told
      (λ at partial. is.lowest Partial at (omega arith)
      (subst (λ (s : Shown). Breaks Partial session steps s at) (sym same) partial)) line
      (subst (λ (s : Shown). Breaks Count session steps s line) same is.broken))

pub verdict_holds : OneThing → NoFault → FormHolds → PlacesHold → CountsHold → ResultsHold → (session : Session)
    (steps : List (List Step)) (runs : List BoardRun) (links : List LinkReport) (verdict : Verdict)
    → IsToldRun session steps runs links
    → IsVerdict session steps (transcript_text (transcript_of steps runs)) verdict → IsYesOrPartial verdict
verdict_holds one_thing no_fault form places counts results session steps runs links verdict told is =
    verdict_is one_thing no_fault form places counts results session steps runs links told verdict is
