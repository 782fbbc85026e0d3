-- The first operation of a text of which something holds is at the first line.
use Rattle.std.proofs.Common.{◌≡◌, ◌⊎◌, ◌++◌, ◌<◌, ℕ, List, [], ◌∷◌, Some, None, refl, ap, sym, subst, ◌∙◌, inl, inr, arith}
use Rattle.std.specs.List.{AllByRecursion}
use Rattle.script_plans.specs.Claims.{Rises}
use Rattle.run_audit.specs.AskedLines.{AskedLine}
use Rattle.run_audit.specs.Steps.{IsFirstBroken}
use Rattle.run_audit.proofs.TextOrder.{ComesBefore}

-- two places in one list: the second stands before the first, there, or behind it
splits : {A : Type 0} (before b behind r : List A) (x a : A) → before ++ x ∷ behind ≡ b ++ a ∷ r
    → ((rest : List A) × (before ≡ b ++ a ∷ rest)) ⊎ ((x ≡ a) ⊎ ((rest : List A) × (b ≡ before ++ x ∷ rest)))
splits [] [] behind r x a same = inr (inl cc)
splits [] (z ∷ b) behind r x a same =
    let e : x ≡ z = cc in
    inr (inr (b, ap (λ w. w ∷ b) (sym e)))
splits (y ∷ before) [] behind r x a same =
    let e : y ≡ a = cc in
    inl (before, ap (λ w. w ∷ before) e)
splits (y ∷ before) (z ∷ b) behind r x a same =
    let e : y ≡ z = cc in
    let tails : before ++ x ∷ behind ≡ b ++ a ∷ r = cc in
    elim (splits before b behind r x a tails) [
      | inl front ↦ inl (front.0, let f = front.1 in cc)
      | inr (inl one) ↦ inr (inl one)
      | inr (inr back) ↦ inr (inr (back.0, let f = back.1 in cc))
    ]

pub all_behind : {A : Type 0} (P : A → Type 0) (xs : List A) (a : A) (ys : List A) → AllByRecursion P (xs ++ a ∷ ys) → P a
all_behind P [] a ys all = all.0
all_behind P (x ∷ xs) a ys all = all_behind P xs a ys all.1

rise_behind : (before : List AskedLine) (x : AskedLine) (rest : List AskedLine) → Rises ComesBefore (before ++ x ∷ rest)
    → AllByRecursion (ComesBefore x) rest
rise_behind [] x rest rises = rises.0
rise_behind (y ∷ before) x rest rises = rise_behind before x rest rises.1

later_line : (before : List AskedLine) (x : AskedLine) (between : List AskedLine) (a : AskedLine) (r : List AskedLine)
    → Rises ComesBefore ((before ++ x ∷ between) ++ a ∷ r) → x.line < a.line
later_line [] x between a r rises = (all_behind (ComesBefore x) between a r rises.0).line
later_line (y ∷ before) x between a r rises = later_line before x between a r rises.1

module _ (P : List AskedLine → AskedLine → Type 0) where
  -- it holds of the operation of a line behind those before it
  pub record HoldsAt (lines : List AskedLine) (line : ℕ) : Type 0 where
    pub before : List AskedLine
    pub asking : AskedLine
    pub behind : List AskedLine
    pub all : lines ≡ before ++ asking ∷ behind
    pub here : asking.line ≡ line
    pub holds : P before asking

  abbrev pub HoldsNowhere : List AskedLine → Type 0
  HoldsNowhere lines =
      (before : List AskedLine) (asking : AskedLine) (behind : List AskedLine) → lines ≡ before ++ asking ∷ behind
      → P before asking → ⊥

  pub nowhere : (lines : List AskedLine) → HoldsNowhere lines → IsFirstBroken (HoldsAt lines) None
  nowhere lines none line at = none at.before at.asking at.behind at.all at.holds

  pub first_at : (lines before : List AskedLine) (asking : AskedLine) (behind : List AskedLine)
      → Rises ComesBefore lines → lines ≡ before ++ asking ∷ behind → P before asking → HoldsNowhere before
      → IsFirstBroken (HoldsAt lines) (Some asking.line)
  first_at lines before asking behind rises all holds none = (
    record { before = before; asking = asking; behind = behind; all = all; here = refl; holds = holds },
    λ earlier less at. elim (splits before at.before behind at.behind asking at.asking (sym all ∙ at.all)) [
      | inl front ↦ none at.before at.asking front.0 front.1 at.holds
      | inr (inl one) ↦
          let same : asking.line ≡ at.asking.line = ap (λ (a : AskedLine). a.line) one in
          let level = at.here in
          omega arith
      | inr (inr back) ↦
          let late : asking.line < at.asking.line =
          later_line before asking back.0 at.asking at.behind
          (subst (λ b. Rises ComesBefore (b ++ at.asking ∷ at.behind)) back.1 (subst (Rises ComesBefore) at.all rises)) in
          let level = at.here in
          omega arith
    ],
  )
