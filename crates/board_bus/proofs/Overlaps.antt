-- Things that stand on addresses from a low one up to a high one: two of them share an address exactly where an
-- address is in two of them, and, in order, exactly where two neighbours do.
use Rattle.std.proofs.Common.{◌≡◌, ℕ, ◌+◌, ◌<◌, ◌≤◌, ◌↔◌, inl, inr, suc, zero, Bool, true, false, cond, ◌&&◌, ◌||◌, ltb}
use Rattle.std.proofs.Common.{leb, List, [], ◌∷◌, length, get_or, map, refl, sym, ap, ◌∙◌, subst, arith, zero-add}
use Rattle.std.specs.List.{All, list_any, count_by, AllAdjacentBelow}
use Rattle.std.specs.List.Sorted.{IsPermutation, IsNonDecreasingBy}
use Rattle.std.proofs.lemmas.List.Elements.{All-head, All-tail, All-cons}
use Rattle.std.proofs.lemmas.List.Sorted.{sum_by-IsPermutation, All-permutation}
use Rattle.std.proofs.lemmas.List.Sums.{sum_by-append}
use Rattle.std.proofs.lemmas.List.Folds.{list_any_none, list_any_at}
use Rattle.std.proofs.lemmas.Bool.{or_cases, or_parts, or_from, or_left, or_right, and_parts, and_from, and_right}
use Rattle.std.proofs.lemmas.Bool.{ltb-true, lt-ltb, le-ltb, leb-true, le-leb, cases_Bool, cases_lt, both_ways}
use Rattle.std.proofs.lemmas.Bool.{eqb-false, false_from_ne_true, true_from_ne_false}
use Rattle.board_bus.specs.declared.range.Range.{Range}
use Rattle.board_bus.specs.declared.range.Span.{Span}
use Rattle.board_bus.specs.Ranges.{any_pair, end_of, holds_address, share_address, is_empty_range}
use Rattle.board_bus.specs.Spans.{span_of}

module _ {X : Type 0} (low high : X → ℕ) where
  abbrev pub share : X → X → Bool
  share x y = ltb (low x) (high y) && ltb (low y) (high x)

  abbrev pub is_in : ℕ → X → Bool
  is_in a x = leb (low x) a && ltb a (high x)

  abbrev pub IsThere : X → Type 0
  IsThere x = low x < high x

  count-cons : (a : ℕ) (x : X) (xs : List X)
      → count_by (is_in a) (x ∷ xs) ≡ cond (is_in a x) 1 0 + count_by (is_in a) xs
  count-cons a x xs = sum_by-append (λ y. cond (is_in a y) 1 0) (x ∷ []) xs
      ∙ ap (λ (n : ℕ). n + count_by (is_in a) xs) (zero-add (cond (is_in a x) 1 0))

  in_both : (a : ℕ) (x y : X) → is_in a x ≡ true → is_in a y ≡ true → share x y ≡ true
  in_both a x y p q =
      let x_low : low x ≤ a = leb-true (low x) a (and_parts (leb (low x) a) (ltb a (high x)) p).0 in
      let x_high : a < high x = ltb-true a (high x) (and_parts (leb (low x) a) (ltb a (high x)) p).1 in
      let y_low : low y ≤ a = leb-true (low y) a (and_parts (leb (low y) a) (ltb a (high y)) q).0 in
      let y_high : a < high y = ltb-true a (high y) (and_parts (leb (low y) a) (ltb a (high y)) q).1 in
      and_from _ _ (lt-ltb (low x) (high y) (omega arith)) (lt-ltb (low y) (high x) (omega arith))

  -- where x shares with none of them, none of them holds an address of x
  none_shares : (a : ℕ) (x : X) (xs : List X) → is_in a x ≡ true → list_any (share x) xs ≡ false
      → count_by (is_in a) xs ≡ 0
  none_shares a x [] p h = refl
  none_shares a x (y ∷ ys) p h =
      let parts = or_parts (share x y) (list_any (share x) ys) h in
      let apart : is_in a y ≡ false =
      false_from_ne_true (is_in a y) (λ q. both_ways (share x y) parts.0 (in_both a x y p q)) in
      count-cons a y ys ∙ ap (λ b. cond b 1 0 + count_by (is_in a) ys) apart ∙ zero-add (count_by (is_in a) ys)
      ∙ none_shares a x ys p parts.1

  pub at_most_one : (xs : List X) → any_pair share xs ≡ false → (a : ℕ) → count_by (is_in a) xs ≤ 1
  at_most_one [] h a = omega arith
  at_most_one (x ∷ xs) h a =
      let parts = or_parts (list_any (share x) xs) (any_pair share xs) h in
      elim (cases_Bool (is_in a x)) [
        | inl held ↦ let others = none_shares a x xs held parts.0 in
            let here = count-cons a x xs ∙ ap (λ b. cond b 1 0 + count_by (is_in a) xs) held in
            omega (arith, here, others)
        | inr apart ↦ let rest = at_most_one xs parts.1 a in
            let here = count-cons a x xs ∙ ap (λ b. cond b 1 0 + count_by (is_in a) xs) apart in
            omega (arith, here, rest)
      ]

  -- an address that both of two that share hold
  shared : (x y : X) → IsThere x → IsThere y → share x y ≡ true → (a : ℕ) × (is_in a x ≡ true) × (is_in a y ≡ true)
  shared x y p q h =
      let parts = and_parts (ltb (low x) (high y)) (ltb (low y) (high x)) h in
      let first : low x < high y = ltb-true _ _ parts.0 in
      let second : low y < high x = ltb-true _ _ parts.1 in
      elim (cases_lt (low x) (low y)) [
        | inl less ↦ (
          low y,
          and_from _ _ (le-leb (low x) (low y) (omega arith)) (lt-ltb (low y) (high x) second),
          and_from _ _ (le-leb (low y) (low y) (omega arith)) (lt-ltb (low y) (high y) q),
        )
        | inr more ↦ (
          low x,
          and_from _ _ (le-leb (low x) (low x) (omega arith)) (lt-ltb (low x) (high x) p),
          and_from _ _ (le-leb (low y) (low x) more) (lt-ltb (low x) (high y) first),
        )
      ]

  some_shares : (x : X) (xs : List X) → IsThere x → All IsThere xs → list_any (share x) xs ≡ true
      → (a : ℕ) × (is_in a x ≡ true) × (1 ≤ count_by (is_in a) xs)
  some_shares x [] p all h = absurd (both_ways false refl h)
  some_shares x (y ∷ ys) p all h =
      elim (or_cases (share x y) (list_any (share x) ys) h) [
        | inl here ↦ let both = shared x y p (All-head IsThere y ys all) here in
            let count = count-cons both.0 y ys ∙ ap (λ b. cond b 1 0 + count_by (is_in both.0) ys) both.2 in
            (both.0, both.1, omega (arith, count))
        | inr later ↦ let both = some_shares x ys p (All-tail IsThere y ys all) later in
            (both.0, both.1, omega (arith, both.2, count-cons both.0 y ys))
      ]

  pub two_somewhere : (xs : List X) → All IsThere xs → any_pair share xs ≡ true → (a : ℕ) × (2 ≤ count_by (is_in a) xs)
  two_somewhere [] all h = absurd (both_ways false refl h)
  two_somewhere (x ∷ xs) all h =
      elim (or_cases (list_any (share x) xs) (any_pair share xs) h) [
        | inl here ↦ let both = some_shares x xs (All-head IsThere x xs all) (All-tail IsThere x xs all) here in
            let count = count-cons both.0 x xs ∙ ap (λ b. cond b 1 0 + count_by (is_in both.0) xs) both.1 in
            (both.0, omega (arith, count, both.2))
        | inr later ↦ let both = two_somewhere xs (All-tail IsThere x xs all) later in
            (both.0, omega (arith, both.1, count-cons both.0 x xs))
      ]

  -- whether any two share does not hang on the order in which they stand
  pub any_pair-IsPermutation : (xs ys : List X) → IsPermutation xs ys → All IsThere xs
      → any_pair share ys ≡ any_pair share xs
  any_pair-IsPermutation xs ys moved all =
      let same : (a : ℕ) → count_by (is_in a) ys ≡ count_by (is_in a) xs =
      λ a. sum_by-IsPermutation (λ x. cond (is_in a x) 1 0) xs ys moved in
      elim (cases_Bool (any_pair share xs)) [
        | inl some ↦ let two = two_somewhere xs all some in
            true_from_ne_false (any_pair share ys) (λ none. let one = at_most_one ys none two.0 in
            omega (arith, two.1, one, same two.0)) ∙ sym some
        | inr none ↦
            false_from_ne_true (any_pair share ys)
            (λ some. let two = two_somewhere ys (All-permutation IsThere xs ys moved all) some in
            let one = at_most_one xs none two.0 in omega (arith, two.1, one, same two.0)) ∙ sym none
      ]

  -- two that share, one after the other
  any_pair_at : (xs : List X) (i j : ℕ) (d : X) → i < j → j < length xs → share (get_or xs i d) (get_or xs j d) ≡ true
      → any_pair share xs ≡ true
  any_pair_at [] i j d p q h = absurd (omega arith)
  any_pair_at (x ∷ xs) i zero d p q h = absurd (omega arith)
  any_pair_at (x ∷ xs) zero (suc j) d p q h =
      or_left (list_any (share x) xs) (any_pair share xs) (list_any_at (share x) xs j d (omega arith) h)
  any_pair_at (x ∷ xs) (suc i) (suc j) d p q h =
      or_right (list_any (share x) xs) (any_pair share xs) (any_pair_at xs i j d (omega arith) (omega arith) h)

  -- in order, one that ends past the beginning of the next shares with it
  pub neighbours_share : (xs : List X) → All IsThere xs → IsNonDecreasingBy low xs → (k : ℕ) (d : X) → k + 1 < length xs
      → low (get_or xs (k + 1) d) < high (get_or xs k d)
      → any_pair share xs ≡ true
  neighbours_share xs all up k d within meets =
      let next = all (k + 1) d within in
      let order = up k (k + 1) d (omega arith) within in
      any_pair_at xs k (k + 1) d (omega arith) within
      (and_from _ _ (lt-ltb (low (get_or xs k d)) (high (get_or xs (k + 1) d)) (omega (arith, next, order)))
      (lt-ltb (low (get_or xs (k + 1) d)) (high (get_or xs k d)) meets))

  -- in order, those that each end before the next share nothing
  pub neighbours_apart : (xs : List X) → IsNonDecreasingBy low xs
      → AllAdjacentBelow (λ x y. high x ≤ low y) xs (length xs) → any_pair share xs ≡ false
  neighbours_apart [] up apart = refl
  neighbours_apart (x ∷ xs) up apart =
      let later : (k : ℕ) (d : X) → k < length xs → high x ≤ low (get_or xs k d) =
      λ k d within. let next = apart 0 d (omega arith) in let order = up 1 (suc k) d (omega arith) (omega arith) in
      omega (arith, next, order) in
      let first : list_any (share x) xs ≡ false =
      list_any_none (share x) xs (λ k d within.
      and_right _ _ (le-ltb (low (get_or xs k d)) (high x) (later k d within))) in
      let rest : any_pair share xs ≡ false =
      neighbours_apart xs (λ i j d p q. up (suc i) (suc j) d (omega arith) (omega arith)) (λ k d q. let e : suc k + 1
      ≡ suc (k + 1) = omega arith in
      subst (λ (n : ℕ). high (get_or xs k d) ≤ low (get_or (x ∷ xs) n d)) e (apart (suc k) d (omega arith))) in
      or_from (list_any (share x) xs) (any_pair share xs) first rest

-- the ends of a span
abbrev pub from : Span → ℕ
from span = span.base

abbrev pub until : Span → ℕ
until span = span.end

abbrev pub HasAddress : Span → Type 0
HasAddress span = IsThere from until span

list_any-spans : (r : Range) (ranges : List Range)
    → list_any (share from until (span_of r)) (map span_of ranges) ≡ list_any (share_address r) ranges
list_any-spans r [] = refl
list_any-spans r (s ∷ ss) = ap (λ b. share_address r s || b) (list_any-spans r ss)

-- spans share as the ranges do
pub any_pair-spans : (ranges : List Range)
    → any_pair (share from until) (map span_of ranges) ≡ any_pair share_address ranges
any_pair-spans [] = refl
any_pair-spans (r ∷ rs) = λ i. list_any-spans r rs i || any_pair-spans rs i

-- where no range is empty, each span has an address
pub spans_there : (ranges : List Range) → list_any is_empty_range ranges ≡ false → All HasAddress (map span_of ranges)
spans_there [] h = λ k d within. absurd (omega arith)
spans_there (r ∷ rs) h =
    let parts = or_parts (is_empty_range r) (list_any is_empty_range rs) h in
    let some : r.size ≡ 0 → ⊥ = eqb-false r.size 0 parts.0 in
    All-cons HasAddress (span_of r) (map span_of rs) (omega arith) (spans_there rs parts.1)

-- the base of a range
abbrev base_of : Range → ℕ
base_of range = range.base

ranges_there : (ranges : List Range) → list_any is_empty_range ranges ≡ false → All (IsThere base_of end_of) ranges
ranges_there [] h = λ k d within. absurd (omega arith)
ranges_there (r ∷ rs) h =
    let parts = or_parts (is_empty_range r) (list_any is_empty_range rs) h in
    let some : r.size ≡ 0 → ⊥ = eqb-false r.size 0 parts.0 in
    All-cons (IsThere base_of end_of) r rs (omega arith) (ranges_there rs parts.1)

pub apart_everywhere : (ranges : List Range) → list_any is_empty_range ranges ≡ false
    → (any_pair share_address ranges ≡ false) ↔ ((a : ℕ) → count_by (holds_address a) ranges ≤ 1)
apart_everywhere ranges some = (
  at_most_one base_of end_of ranges,
  λ one. false_from_ne_true (any_pair share_address ranges) (λ meets.
      let two = two_somewhere base_of end_of ranges (ranges_there ranges some) meets in
      omega (arith, two.1, one two.0)),
)
