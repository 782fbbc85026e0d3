-- The first line that does not stand in its place is the first at fault.
use Rattle.std.proofs.Common.{◌≡◌, ◌⊎◌, ℕ, zero, suc, ◌+◌, ◌<◌, List, [], ◌∷◌, ◌++◌, length, slice_get, Option, Some, None}
use Rattle.std.proofs.Common.{inl, inr, refl, ap, subst, ◌∙◌, arith, length-append}
use Rattle.std.specs.List.{AllZip}
use Rattle.board_specs.specs.declared.spec.BoardSpec.{BoardSpec}
use Rattle.script_steps.specs.declared.operation.Step.{Step}
use Rattle.script_plans.specs.declared.greeting.Greeting.{Greeting}
use Rattle.transcript_reader.specs.declared.shown.Unshown.{Unshown}
use Rattle.transcript_reader.specs.declared.shown.Unshown.TheVariants.{At, NoMemory}
use Rattle.transcript_reader.specs.Entries.{Entry, MayStand, entries, lines_of, told_boards}
use Rattle.transcript_reader.specs.Faults.{IsFaultAt, IsUnshown}
use Rattle.transcript_reader.specs.Walks.{IsStuck, IsStuckBehind}

module _ (boards : List BoardSpec) (told : List Greeting) where
  Stands : List Entry → List (List ℕ) → ℕ → Type 0
  Stands es ls at =
      (entry : Entry) × (line : List ℕ) × (slice_get es at ≡ Some entry) × (slice_get ls at ≡ Some line)
      × MayStand boards told entry line

  stuck_within : (es : List Entry) (ls : List (List ℕ)) (n : ℕ) → IsStuck boards told es ls n → n < length es
  stuck_within [] ls n stuck = absurd stuck
  stuck_within (e ∷ es) [] n stuck = omega arith
  stuck_within (e ∷ es) (l ∷ ls) n (inl wrong) = omega (arith, wrong.0)
  stuck_within (e ∷ es) (l ∷ ls) n (inr (later, is, stands, stuck)) = omega (arith, stuck_within es ls later stuck)

  stuck_before : (es : List Entry) (ls : List (List ℕ)) (n i : ℕ) → IsStuck boards told es ls n → i < n → Stands es ls i
  unfolding Stands
  stuck_before [] ls n i stuck low = absurd stuck
  stuck_before (e ∷ es) [] n i stuck low = absurd (omega arith)
  stuck_before (e ∷ es) (l ∷ ls) n i (inl wrong) low = absurd (omega (arith, wrong.0))
  stuck_before (e ∷ es) (l ∷ ls) n zero (inr (later, is, stands, stuck)) low = (e, l, refl, refl, stands)
  stuck_before (e ∷ es) (l ∷ ls) n (suc i) (inr (later, is, stands, stuck)) low =
      stuck_before es ls later i stuck (omega arith)

  wrong_by : (e entry : Entry) (l line : List ℕ) → (MayStand boards told e l → ⊥) → ◌≡◌ {A = Option Entry} (Some e) (Some entry)
      → ◌≡◌ {A = Option (List ℕ)} (Some l) (Some line) → MayStand boards told entry line → ⊥
  wrong_by e entry l line never one two stands =
      let same : entry ≡ e = cc in
      let also : line ≡ l = cc in
      never (subst (λ (x : Entry). MayStand boards told x l) same
      (subst (λ (t : List ℕ). MayStand boards told entry t) also stands))

  stuck_wrong : (es : List Entry) (ls : List (List ℕ)) (n : ℕ) → IsStuck boards told es ls n → Stands es ls n → ⊥
  unfolding Stands
  stuck_wrong [] ls n stuck right = absurd stuck
  stuck_wrong (e ∷ es) [] n stuck (entry, line, one, two, stands) = cc
  stuck_wrong (e ∷ es) (l ∷ ls) zero (inl wrong) (entry, line, one, two, stands) =
      wrong_by e entry l line wrong.1 one two stands
  stuck_wrong (e ∷ es) (l ∷ ls) (suc n) (inl wrong) right = absurd (omega (arith, wrong.0))
  stuck_wrong (e ∷ es) (l ∷ ls) zero (inr (later, is, stands, stuck)) right = absurd (omega arith)
  stuck_wrong (e ∷ es) (l ∷ ls) (suc n) (inr (later, is, stands, stuck)) (entry, line, one, two, stand) =
      let same : later ≡ n = omega arith in
      stuck_wrong es ls n (subst (λ (k : ℕ). IsStuck boards told es ls k) same stuck) (entry, line, one, two, stand)

  all_right : (es : List Entry) (front more : List (List ℕ)) (i : ℕ) → AllZip (MayStand boards told) es front
      → i < length es → Stands es (front ++ more) i
  unfolding Stands
  all_right [] front more i stand low = absurd (omega arith)
  all_right (e ∷ es) [] more i stand low = absurd stand
  all_right (e ∷ es) (l ∷ front) more zero stand low = (e, l, refl, refl, stand.0)
  all_right (e ∷ es) (l ∷ front) more (suc i) stand low = all_right es front more i stand.1 (omega arith)

-- where a line is the first that does not stand, it is at fault
pub is_unshown : (boards : List BoardSpec) (scripts : List (List Step)) (text : List ℕ) (u : Unshown)
    → IsStuckBehind boards (told_boards boards scripts (lines_of text)) (entries boards scripts) (lines_of text) 0 u
    → IsUnshown boards scripts text u
unfolding Stands
is_unshown boards scripts text (At line) (n, is, stuck) =
    let told = told_boards boards scripts (lines_of text) in
    let es = entries boards scripts in
    let ls = lines_of text in
    record {
      at = n;
      counted = omega arith;
      before = λ i low.
          let right = stuck_before boards told es ls n i stuck low in
          record { entry = right.0; line = right.1; expected = right.2; there = right.3; stands = right.4 };
      within = inl (stuck_within boards told es ls n stuck);
      wrong = λ right.
          stuck_wrong boards told es ls n stuck (right.entry, right.line, right.expected, right.there, right.stands);
    }
is_unshown boards scripts text NoMemory stuck = tt

none_past : (es : List Entry) → slice_get es (length es) ≡ None
none_past [] = refl
none_past (e ∷ es) = none_past es

-- a line behind those of all entries is at fault
pub left_over : (boards : List BoardSpec) (scripts : List (List Step)) (text : List ℕ) (line : ℕ) (front more : List (List ℕ))
    → AllZip (MayStand boards (told_boards boards scripts (lines_of text))) (entries boards scripts) front
    → lines_of text ≡ front ++ more → 0 < length more → length front ≡ length (entries boards scripts)
    → line ≡ length (entries boards scripts) + 1 → IsFaultAt boards scripts text line
unfolding Stands
left_over boards scripts text line front more stand parts some long counted =
    let told = told_boards boards scripts (lines_of text) in
    let es = entries boards scripts in
    record {
      at = length es;
      counted = counted;
      before = λ i low.
          let right = all_right boards told es front more i stand low in
          record {
            entry = right.0;
            line = right.1;
            expected = right.2;
            there = ap (λ (ls : List (List ℕ)). slice_get ls i) parts ∙ right.3;
            stands = right.4;
          };
      within = inr (omega (arith, ap length parts, length-append front more));
      wrong = λ right. let none = none_past es in let e = right.expected in cc;
    }
