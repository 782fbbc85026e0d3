-- How many different numbers a list has whose numbers are those from 1 up to some number.
use Rattle.std.proofs.Common.{◌≡◌, ℕ, zero, suc, ◌+◌, ◌<◌, ◌≤◌, Bool, true, false, cond, List, [], ◌∷◌, refl, sym, ap}
use Rattle.std.proofs.Common.{◌∙◌, inl, inr, arith}
use Rattle.std.specs.Prelude.{eqb, ◌||◌}
use Rattle.std.specs.List.{AllByRecursion, Any, list_any}
use Rattle.std.proofs.lemmas.Bool.{cases_Bool, cases_eq, eq-eqb, eqb-true, ne_eqb}
use Rattle.std.proofs.lemmas.List.Folds.{list_any-from_Any}
use Rattle.mtu_packer.proofs.AnyLemmas.{any_same}
use Rattle.world_model.proofs.Lists.{either}
use Rattle.run_audit.specs.Counts.{distinct}

-- whether the number stands in the list
abbrev has : List ℕ → ℕ → Bool
has ns n = list_any (eqb n) ns

abbrev one_if : Bool → ℕ
one_if test = cond test 1 0

-- how many of the numbers 1, 2, .. up to this one stand in the list
abbrev members : List ℕ → ℕ → ℕ
members ns zero = 0
members ns (suc top) = one_if (has ns (suc top)) + members ns top

none_in : (top : ℕ) → members [] top ≡ 0
none_in zero = refl
none_in (suc top) = omega (arith, none_in top)

-- ---- one number more

has_again : (n : ℕ) (ns : List ℕ) (m : ℕ) → has ns n ≡ true → has (n ∷ ns) m ≡ has ns m
has_again n ns m is = elim (cases_Bool (eqb m n)) [
  | inl same ↦ ap (λ b. b || has ns m) same ∙ sym (ap (has ns) (eqb-true m n same) ∙ is)
  | inr other ↦ ap (λ b. b || has ns m) other
]

again : (n : ℕ) (ns : List ℕ) (top : ℕ) → has ns n ≡ true → members (n ∷ ns) top ≡ members ns top
again n ns zero is = refl
again n ns (suc top) is =
    ap (λ b. one_if b + members (n ∷ ns) top) (has_again n ns (suc top) is)
    ∙ ap (λ k. one_if (has ns (suc top)) + k) (again n ns top is)

has_other : (n : ℕ) (ns : List ℕ) (m : ℕ) → (m ≡ n → ⊥) → has (n ∷ ns) m ≡ has ns m
has_other n ns m other = ap (λ b. b || has ns m) (ne_eqb m n other)

above : (n : ℕ) (ns : List ℕ) (top : ℕ) → top < n → members (n ∷ ns) top ≡ members ns top
above n ns zero high = refl
above n ns (suc top) high =
    ap (λ b. one_if b + members (n ∷ ns) top) (has_other n ns (suc top) (λ same. omega arith))
    ∙ ap (λ k. one_if (has ns (suc top)) + k) (above n ns top (omega arith))

once : (n : ℕ) (ns : List ℕ) (top : ℕ) → has ns n ≡ false → 1 ≤ n → n ≤ top
    → members (n ∷ ns) top ≡ members ns top + 1
once n ns zero not low high = absurd (omega arith)
once n ns (suc top) not low high = elim (cases_eq (suc top) n) [
  | inl same ↦
      let here : one_if (has (n ∷ ns) (suc top)) ≡ 1 =
      ap (λ b. one_if (b || has ns (suc top))) (eq-eqb (suc top) n same) in
      let before : one_if (has ns (suc top)) ≡ 0 = ap one_if (ap (has ns) same ∙ not) in
      omega (arith, above n ns top (omega arith))
  | inr other ↦
      let here : one_if (has (n ∷ ns) (suc top)) ≡ one_if (has ns (suc top)) =
      ap one_if (has_other n ns (suc top) other) in
      omega (arith, once n ns top not low (omega arith))
]

-- ---- all numbers

distinct_members : (top : ℕ) (ns : List ℕ) → AllByRecursion (λ n. (1 ≤ n) × (n ≤ top)) ns
    → distinct ns ≡ members ns top
distinct_members top [] all = sym (none_in top)
distinct_members top (n ∷ ns) all =
    either (λ (k : ℕ). k ≡ members (n ∷ ns) top) (list_any (eqb n) ns) (distinct ns) (distinct ns + 1)
    (λ is. distinct_members top ns all.1 ∙ sym (again n ns top is))
    (λ not. ap (λ k. k + 1) (distinct_members top ns all.1) ∙ sym (once n ns top not all.0.0 all.0.1))

full : (ns : List ℕ) (top : ℕ) → ((n : ℕ) → 1 ≤ n → n ≤ top → has ns n ≡ true) → members ns top ≡ top
full ns zero each = refl
full ns (suc top) each =
    let here : one_if (has ns (suc top)) ≡ 1 = ap one_if (each (suc top) (omega arith) (omega arith)) in
    omega (arith, full ns top (λ n low high. each n low (omega arith)))

-- a list of these numbers that has each of them has so many different ones
pub all_distinct : (top : ℕ) (ns : List ℕ) → AllByRecursion (λ n. (1 ≤ n) × (n ≤ top)) ns
    → ((n : ℕ) → 1 ≤ n → n ≤ top → Any (λ m. m ≡ n) ns) → distinct ns ≡ top
all_distinct top ns all each =
    distinct_members top ns all
    ∙ full ns top (λ n low high. list_any-from_Any (eqb n) ns
    (any_same (λ m. m ≡ n) (λ m. eqb n m ≡ true) ns (λ m same. eq-eqb n m (sym same)) (each n low high)))
