-- How many places there are, and the first board that counts others.
use Rattle.std.proofs.Common.{◌≡◌, ℕ, ◌+◌, ◌<◌, ◌≤◌, ◌||◌, Bool, true, false, cond, eqb, length, List, [], ◌∷◌, ◌++◌}
use Rattle.std.proofs.Common.{Some, None, refl, sym, ap, subst, ◌∙◌, inl, inr, arith, eq-eqb}
use Rattle.std.specs.List.{list_any, slice_get}
use Rattle.std.proofs.lemmas.Bool.{cases_eq}
use Rattle.std.proofs.lemmas.Bool.Decides.{eqb_tells}
use Rattle.std.proofs.lemmas.Option.{same_Some, slice_get_within}
use Rattle.board_specs.specs.declared.spec.BoardSpec.{BoardSpec}
use Rattle.script_steps.specs.declared.operation.Step.{Step}
use Rattle.transcript.specs.declared.line.BoardLine.{BoardLine}
use Rattle.transcript_reader.specs.declared.shown.Shown.{Shown}
use Rattle.transcript_reader.specs.Entries.{clients_from}
use Rattle.run_audit.specs.AskedLines.{asked_lines, pieces_shown}
use Rattle.run_audit.specs.Counts.{IsMiscounted, IsMiscountedAt, distinct}
use Rattle.run_audit.specs.Steps.{IsFirstBroken}

-- ---- different numbers

abbrev pub is_among : ℕ → List ℕ → Bool
is_among n ns = list_any (eqb n) ns

or_none : (b : Bool) → (b || false) ≡ b
or_none true = refl
or_none false = refl

or_again : (a b c : Bool) → (a || (b || c)) ≡ ((a || b) || c)
or_again true b c = refl
or_again false b c = refl

other_way : (m n : ℕ) → (m ≡ n → ⊥) → eqb n m ≡ false
other_way m n apart = elim (eqb_tells n m) [ inl (is_true, same) ↦ absurd (apart (sym same)) | inr (is_false, other) ↦ is_false ]

or_true : (b : Bool) → (b || true) ≡ true
or_true true = refl
or_true false = refl

-- the number at the head is the one that is added
both_same : (here there : Bool) (d : ℕ) → here ≡ there
    → cond (here || true) (cond there d (d + 1)) (cond there d (d + 1) + 1) ≡ cond true (cond here d (d + 1)) 0
both_same here there d same = rw (or_true here, same) refl

-- it is another one
four_ways : (here there : Bool) (d : ℕ)
    → cond (here || false) (cond there d (d + 1)) (cond there d (d + 1) + 1)
    ≡ cond there (cond here d (d + 1)) (cond here d (d + 1) + 1)
four_ways true true d = refl
four_ways true false d = refl
four_ways false true d = refl
four_ways false false d = refl

pub among_push : (n m : ℕ) (ns : List ℕ) → is_among n (ns ++ m ∷ []) ≡ (is_among n ns || eqb n m)
among_push n m [] = or_none (eqb n m)
among_push n m (k ∷ ns) = ap (λ b. eqb n k || b) (among_push n m ns) ∙ or_again (eqb n k) (is_among n ns) (eqb n m)

-- one number more is one more where it was not there
pub distinct_push : (ns : List ℕ) (n : ℕ)
    → distinct (ns ++ n ∷ []) ≡ cond (is_among n ns) (distinct ns) (distinct ns + 1)
distinct_push [] n = refl
distinct_push (m ∷ ns) n =
    rw (among_push m n ns, distinct_push ns n)
    (elim (eqb_tells m n) [
      | inl (is_true, same) ↦
          rw (is_true, eq-eqb n m (sym same)) (both_same (is_among m ns) (is_among n ns) (distinct ns)
          (ap (λ k. is_among k ns) same))
      | inr (is_false, apart) ↦ rw (is_false, other_way m n apart) (four_ways (is_among m ns) (is_among n ns) (distinct ns))
    ])

-- ---- boards

module _ (boards : List BoardSpec) (scripts : List (List Step)) (shown : Shown) where
  -- the pieces on a board
  abbrev pub IsMiscountedOn : ℕ → BoardLine → Type 0
  IsMiscountedOn board told = IsMiscounted (pieces_shown boards scripts board (asked_lines scripts shown)) told

  -- none of the first boards is miscounted
  abbrev pub NoneMiscounted : ℕ → Type 0
  NoneMiscounted most =
      (board : ℕ) (told : BoardLine) → board < most → slice_get shown.boards board ≡ Some told
      → IsMiscountedOn board told → ⊥

  pub miscounted_more : (board : ℕ) (told : BoardLine) → NoneMiscounted board → slice_get shown.boards board ≡ Some told
      → (IsMiscountedOn board told → ⊥) → NoneMiscounted (board + 1)
  miscounted_more board told none at right other line before there wrong =
      elim (cases_eq other board) [
        | inl same ↦
            let one : line ≡ told = same_Some line told (sym there ∙ (ap (λ b. slice_get shown.boards b) same ∙ at)) in
            right (subst (λ b. IsMiscountedOn b told) same (subst (IsMiscountedOn other) one wrong))
        | inr apart ↦ none other line (omega arith) there wrong
      ]

  pub miscounted_found : (board : ℕ) (told : BoardLine) (line : ℕ) → line ≡ length (clients_from 1 scripts) + board + 1
      → NoneMiscounted board → slice_get shown.boards board ≡ Some told → IsMiscountedOn board told
      → IsFirstBroken (IsMiscountedAt boards scripts shown) (Some line)
  miscounted_found board told line here none at wrong = (
    record { board = board; told = told; there = at; here = here; miscounted = wrong },
    λ earlier less other.
        none other.board other.told (omega (arith, other.here)) other.there other.miscounted,
  )

  pub miscounted_none : (most : ℕ) → length shown.boards ≤ most → NoneMiscounted most
      → IsFirstBroken (IsMiscountedAt boards scripts shown) None
  miscounted_none most over none = λ line other.
      none other.board other.told (omega (arith, slice_get_within shown.boards other.board other.told other.there))
      other.there other.miscounted
