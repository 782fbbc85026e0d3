-- A text has one verdict.
use Rattle.std.proofs.Common.{◌≡◌, ◌⊎◌, ℕ, ◌+◌, List, inl, inr, refl, sym, ap, subst, ◌∙◌, arith}
use Rattle.std.proofs.lemmas.Bool.{cases_lt}
use Rattle.script_steps.specs.declared.operation.Step.{Step}
use Rattle.script_lang.specs.declared.session.Session.{Session}
use Rattle.transcript_reader.specs.declared.shown.Shown.{Shown}
use Rattle.transcript_reader.specs.Faults.{IsFaultAt}
use Rattle.transcript_reader.specs.Shown.{IsShownBy}
use Rattle.run_audit.specs.declared.verdict.AuditWhy.{AuditWhy}
use Rattle.run_audit.specs.declared.verdict.AuditWhy.TheVariants.{Form, Partial, Place, Result, Count}
use Rattle.run_audit.specs.declared.verdict.Verdict.{Verdict}
use Rattle.run_audit.specs.declared.verdict.Verdict.TheVariants.{Yes, No}
use Rattle.run_audit.specs.Verdicts.{Breaks, BreaksFirst, Fits, IsBrokenAt, IsVerdict, rule_number}

-- what `transcript_reader` says of a text: it shows one thing, and a transcript has no fault
pub record ReadsOnce (session : Session) (scripts : List (List Step)) (text : List ℕ) : Type 0 where
  pub one : (shown other : Shown) → IsShownBy session.boards scripts text shown
      → IsShownBy session.boards scripts text other → shown ≡ other
  pub none : (shown : Shown) (line : ℕ) → IsShownBy session.boards scripts text shown
      → ¬ IsFaultAt session.boards scripts text line

one_rule : (v w : AuditWhy) → rule_number v ≡ rule_number w → v ≡ w
one_rule Form Form same = refl
one_rule Partial Partial same = refl
one_rule Place Place same = refl
one_rule Result Result same = refl
one_rule Count Count same = refl
one_rule v w same = absurd (omega arith)

one_fault : (session : Session) (scripts : List (List Step)) (text : List ℕ) (line other : ℕ)
    → IsFaultAt session.boards scripts text line → IsFaultAt session.boards scripts text other → line ≡ other
one_fault session scripts text line other f g =
    elim (cases_lt f.at g.at) [
      | inl less ↦ absurd (f.wrong (g.before f.at less))
      | inr not_less ↦ elim (cases_lt g.at f.at) [
        | inl more ↦ absurd (g.wrong (f.before g.at more))
        | inr not_more ↦
            (let same : f.at ≡ g.at = omega arith in f.counted ∙ (ap (λ n. n + 1) same ∙ sym g.counted))
      ]
    ]

-- a fault of a higher rule, or of the same at a later line, is not the first one
one_line : (session : Session) (scripts : List (List Step)) (text : List ℕ) (line other : ℕ) (why : AuditWhy)
    → ReadsOnce session scripts text → BreaksFirst session scripts text line why
    → BreaksFirst session scripts text other why → line ≡ other
one_line session scripts text line other why reads f g =
    let same = reads.one f.shown g.shown f.is_shown g.is_shown in
    elim (cases_lt line other) [
      | inl less ↦ absurd (g.first line less (subst (λ s. Breaks why session scripts s line) same f.broken))
      | inr not_less ↦ elim (cases_lt other line) [
        | inl more ↦ absurd (f.first other more
            (subst (λ s. Breaks why session scripts s other) (sym same) g.broken))
        | inr not_more ↦ omega arith
      ]
    ]

one_first : (session : Session) (scripts : List (List Step)) (text : List ℕ) (line other : ℕ) (v w : AuditWhy)
    → ReadsOnce session scripts text → BreaksFirst session scripts text line v
    → BreaksFirst session scripts text other w → No line v ≡ No other w
one_first session scripts text line other v w reads f g =
    let same = reads.one f.shown g.shown f.is_shown g.is_shown in
    elim (cases_lt (rule_number v) (rule_number w)) [
      | inl less ↦ absurd (g.lowest v line less (subst (λ s. Breaks v session scripts s line) same f.broken))
      | inr not_less ↦ elim (cases_lt (rule_number w) (rule_number v)) [
        | inl more ↦ absurd (f.lowest w other more
            (subst (λ s. Breaks w session scripts s other) (sym same) g.broken))
        | inr not_more ↦
            (let rule : v ≡ w = one_rule v w (omega arith) in
            let also : BreaksFirst session scripts text other v =
            subst (BreaksFirst session scripts text other) (sym rule) g in
            ap (λ l. No l v) (one_line session scripts text line other v reads f also) ∙ ap (No other) rule)
      ]
    ]

-- what fits breaks nothing
fits_first : {A : Type 0} → (session : Session) (scripts : List (List Step)) (text : List ℕ) (line : ℕ) (why : AuditWhy)
    → ReadsOnce session scripts text → Fits session scripts text → BreaksFirst session scripts text line why → A
fits_first session scripts text line why reads f g =
    let same = reads.one g.shown f.shown g.is_shown f.is_shown in
    absurd (f.whole why line (subst (λ s. Breaks why session scripts s line) same g.broken))

-- a broken rule is that of the form, or another one, which is the first that is broken
broken_as : (session : Session) (scripts : List (List Step)) (text : List ℕ) (line : ℕ) (why : AuditWhy)
    → IsBrokenAt session scripts text line why
    → ((why ≡ Form) × IsFaultAt session.boards scripts text line) ⊎ BreaksFirst session scripts text line why
broken_as session scripts text line Form b = inl (refl, b)
broken_as session scripts text line Partial b = inr b
broken_as session scripts text line Place b = inr b
broken_as session scripts text line Result b = inr b
broken_as session scripts text line Count b = inr b

fits_unbroken : (session : Session) (scripts : List (List Step)) (text : List ℕ) (line : ℕ) (why : AuditWhy)
    → ReadsOnce session scripts text → Fits session scripts text → IsBrokenAt session scripts text line why → ⊥
fits_unbroken session scripts text line why reads f b =
    elim (broken_as session scripts text line why b) [
      | inl form ↦ reads.none f.shown line f.is_shown form.1
      | inr first ↦ fits_first session scripts text line why reads f first
    ]

one_broken : (session : Session) (scripts : List (List Step)) (text : List ℕ) (line other : ℕ) (v w : AuditWhy)
    → ReadsOnce session scripts text → IsBrokenAt session scripts text line v
    → IsBrokenAt session scripts text other w → No line v ≡ No other w
one_broken session scripts text line other v w reads b c =
    elim (broken_as session scripts text line v b) [
      | inl form ↦ elim (broken_as session scripts text other w c) [
        | inl also ↦ ap (No line) form.0 ∙ (ap (λ l. No l Form)
            (one_fault session scripts text line other form.1 also.1) ∙ ap (No other) (sym also.0))
        | inr first ↦ absurd (reads.none first.shown line first.is_shown form.1)
      ]
      | inr first ↦ elim (broken_as session scripts text other w c) [
        | inl form ↦ absurd (reads.none first.shown other first.is_shown form.1)
        | inr also ↦ one_first session scripts text line other v w reads first also
      ]
    ]

pub one_verdict : (session : Session) (scripts : List (List Step)) (text : List ℕ) → ReadsOnce session scripts text
    → (one other : Verdict) → IsVerdict session scripts text one → IsVerdict session scripts text other → one ≡ other
one_verdict session scripts text reads Yes Yes f g = refl
one_verdict session scripts text reads Yes (No line why) f g =
    absurd (fits_unbroken session scripts text line why reads f g)
one_verdict session scripts text reads (No line why) Yes f g =
    absurd (fits_unbroken session scripts text line why reads g f)
one_verdict session scripts text reads (No line v) (No other w) f g =
    one_broken session scripts text line other v w reads f g
