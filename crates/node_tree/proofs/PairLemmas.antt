-- The pairs of registers that overlap: which they are, and that their second places rise.
use Rattle.std.proofs.Common.{◌≡◌, ℕ, zero, suc, ◌+◌, ◌<◌, ◌≤◌, List, [], ◌∷◌, ◌++◌, length, map, Bool, true, false}
use Rattle.std.proofs.Common.{cond, Option, Some, None, slice_get, nat_lt, Less, refl, ap, sym, ◌∙◌, subst, arith}
use Rattle.std.proofs.Common.{append_assoc, length-append}
use Rattle.std.specs.List.{Contains, position_from}
use Rattle.std.specs.List.{AllByRecursion}
use Rattle.std.specs.List.Sorted.{IsStrictlySortedBy, IsStrictlyIncreasing}
use Rattle.std.specs.Ordering.{nat_cmp}
use Rattle.std.specs.Cmp.{nat_cmp_is}
use Rattle.std.proofs.Math.Nat.{eq-or-lt_of_le}
use Rattle.std.proofs.lemmas.Map.Keys.{IsStrictlyIncreasing-from_sorted}
use Rattle.std.proofs.lemmas.Bool.{false≢true, ltb-true, lt-ltb, and_parts, and_from, cases_lt}
use Rattle.std.proofs.lemmas.List.{append-nil}
use Rattle.std.proofs.lemmas.List.Elements.{Contains-append_left, Contains-append_right, Contains-append_cases}
use Rattle.node_tree.specs.declared.register.Register.{Register}
use Rattle.node_tree.specs.Named.{Name}
use Rattle.address_table.specs.declared.kinds.Mode.{Mode}
use Rattle.address_table.specs.declared.kinds.Mode.TheVariants.{Single, Block, Port, Hierarchical}
use Rattle.node_tree.specs.Walk.{words_of}
use Rattle.node_tree.specs.Overlaps.{overlap, overlapping, pair_with, passes, overlap_at, IsFirstOverlap}
use Rattle.node_tree.specs.Overlaps.{share_an_address, HasAddress}
use Rattle.node_tree.proofs.CycleLemmas.{either}

abbrev Entry : Type 0
Entry = Name × Register

-- the first place that passes, counted from a number
pub found-first : (t : Entry → Bool) (k : ℕ) (xs : List Entry) (i : ℕ) → passes t (slice_get xs i) ≡ true
    → ((c : ℕ) → c < i → passes t (slice_get xs c) ≡ false) → position_from t k xs ≡ Some (k + i)
found-first t k [] i h first = absurd (false≢true h)
found-first t k (x ∷ xs) zero h first = rw h (ap Some (sym (omega arith)))
found-first t k (x ∷ xs) (suc i) h first =
    rw (first 0 (omega arith))
    (found-first t (k + 1) xs i h (λ c less. first (suc c) (omega arith)) ∙ ap Some (omega arith))

pub found-none : (t : Entry → Bool) (k : ℕ) (xs : List Entry) → ((c : ℕ) → passes t (slice_get xs c) ≡ false)
    → position_from t k xs ≡ None
found-none t k [] apart = refl
found-none t k (x ∷ xs) apart = rw (apart 0) (found-none t (k + 1) xs (λ c. apart (suc c)))

-- what a place that is found says
pub record IsFound (t : Entry → Bool) (xs : List Entry) (i : ℕ) : Type 0 where
  pub here : passes t (slice_get xs i) ≡ true
  pub before : (c : ℕ) → c < i → passes t (slice_get xs c) ≡ false

step_first : (t : Entry → Bool) (x : Entry) (xs : List Entry) (i c : ℕ) → t x ≡ false → IsFound t xs i → c < suc i
    → passes t (slice_get (x ∷ xs) c) ≡ false
step_first t x xs i zero miss found less = miss
step_first t x xs i (suc c) miss found less = found.before c (omega arith)

by_head : (t : Entry → Bool) (k : ℕ) (x : Entry) (xs : List Entry) (m : ℕ) (b : Bool) → t x ≡ b
    → cond b (Some k) (position_from t (k + 1) xs) ≡ Some m
    → (position_from t (k + 1) xs ≡ Some m → (i : ℕ) × (m ≡ k + 1 + i) × IsFound t xs i)
    → (i : ℕ) × (m ≡ k + i) × IsFound t (x ∷ xs) i
by_head t k x xs m true hit is rest =
    let same : k ≡ m = cc in (0, omega arith, record { here = hit; before = λ c less. absurd (omega arith) })
by_head t k x xs m false miss is rest =
    let (i, place, found) = rest is in
    (suc i, omega arith, record { here = found.here; before = λ c less. step_first t x xs i c miss found less })

pub first-found : (t : Entry → Bool) (k : ℕ) (xs : List Entry) (m : ℕ) → position_from t k xs ≡ Some m
    → (i : ℕ) × (m ≡ k + i) × IsFound t xs i
first-found t k [] m is = cc
first-found t k (x ∷ xs) m is = by_head t k x xs m (t x) refl is (first-found t (k + 1) xs m)

-- what stands before an entry, the entry, and what stands after it
get-before : (xs ys : List Entry) (c : ℕ) → c < length xs → slice_get (xs ++ ys) c ≡ slice_get xs c
get-before [] ys c h = absurd (omega arith)
get-before (x ∷ xs) ys zero h = refl
get-before (x ∷ xs) ys (suc c) h = get-before xs ys c (omega arith)

get-seam : (xs ys : List Entry) (y : Entry) → slice_get (xs ++ y ∷ ys) (length xs) ≡ Some y
get-seam [] ys y = refl
get-seam (x ∷ xs) ys y = get-seam xs ys y

at-seam : (before es : List Entry) (e : Entry) (c : ℕ) → c < length before
    → overlap_at (before ++ e ∷ es) c (length before) ≡ passes (λ a. overlap a e) (slice_get before c)
at-seam before es e c less =
    ap (λ o. passes (λ y. passes (λ x. overlap x y) (slice_get (before ++ e ∷ es) c)) o) (get-seam before es e)
    ∙ ap (passes (λ a. overlap a e)) (get-before before (e ∷ es) c less)

within-passes : (t : Entry → Bool) (xs : List Entry) (i : ℕ) → passes t (slice_get xs i) ≡ true → i < length xs
within-passes t [] i h = absurd (false≢true h)
within-passes t (x ∷ xs) zero h = omega arith
within-passes t (x ∷ xs) (suc i) h = let rest = within-passes t xs i h in omega (arith, rest)

-- the pair of an entry with those before it
seam-first : (before es : List Entry) (e : Entry) (i : ℕ) → IsFound (λ a. overlap a e) before i
    → IsFirstOverlap (before ++ e ∷ es) i (length before)
seam-first before es e i found =
    let less : i < length before = within-passes (λ a. overlap a e) before i found.here in
    record {
      later = less;
      found = at-seam before es e i less ∙ found.here;
      first = λ c below. at-seam before es e c (omega arith) ∙ found.before c below;
    }

first-seam : (before es : List Entry) (e : Entry) (i : ℕ) → IsFirstOverlap (before ++ e ∷ es) i (length before)
    → IsFound (λ a. overlap a e) before i
first-seam before es e i first = record {
  here = sym (at-seam before es e i first.later) ∙ first.found;
  before =
      λ c below. let less : c < length before =
      (let later = first.later in omega arith) in sym (at-seam before es e c less) ∙ first.first c below;
}

none_contained : {X : Type 0} (x : X) → Contains [] x → ⊥
none_contained x (k, within, is) = omega arith

one_contained : {X : Type 0} (y x : X) → Contains (y ∷ []) x → y ≡ x
one_contained y x (zero, within, is) = is
one_contained y x (suc k, within, is) = absurd (omega arith)

one_there : {X : Type 0} (x : X) → Contains (x ∷ []) x
one_there x = (0, omega arith, refl)

from_pair : (before es : List Entry) (e : Entry) (o : Option ℕ) (a b : ℕ)
    → position_from (λ x. overlap x e) 0 before ≡ o → Contains (pair_with (length before) o) (a, b)
    → IsFirstOverlap (before ++ e ∷ es) a b × (length before ≤ b)
from_pair before es e None a b is there = absurd (none_contained (a, b) there)
from_pair before es e (Some m) a b is there =
    let (i, place, found) = first-found (λ x. overlap x e) 0 before m is in
    let pair = one_contained (m, length before) (a, b) there in
    let second : length before ≡ b = ap (λ p. p.1) pair in
    let which : i ≡ a = (let m_is = ap (λ p. p.0) pair in omega (arith, m_is, place)) in (
      subst (λ n. IsFirstOverlap (before ++ e ∷ es) n b) which
          (subst (IsFirstOverlap (before ++ e ∷ es) i) second (seam-first before es e i found)),
      omega arith,
    )

to_pair : (before es : List Entry) (e : Entry) (a : ℕ) → IsFirstOverlap (before ++ e ∷ es) a (length before)
    → Contains (pair_with (length before) (position_from (λ x. overlap x e) 0 before)) (a, length before)
to_pair before es e a first =
    let found = first-seam before es e a first in
    let place : position_from (λ x. overlap x e) 0 before ≡ Some a =
    found-first (λ x. overlap x e) 0 before a found.here found.before ∙ ap Some (omega arith) in
    rw place (one_there (a, length before))

-- the second entry of a pair is there
second-within : (es : List Entry) (a b : ℕ) → overlap_at es a b ≡ true → b < length es
second-within es a b h = within-passes (λ y. passes (λ x. overlap x y) (slice_get es a)) es b h

pub pairs-are : (before es : List Entry) (a b : ℕ) → Contains (overlapping before es) (a, b)
    → IsFirstOverlap (before ++ es) a b × (length before ≤ b)
pairs-are before [] a b there = absurd (none_contained (a, b) there)
pairs-are before (e ∷ es) a b there =
    either (Contains-append_cases (pair_with (length before) (position_from (λ x. overlap x e) 0 before))
    (overlapping (before ++ e ∷ []) es) (a, b) there)
    (from_pair before es e (position_from (λ x. overlap x e) 0 before) a b refl)
    (λ later. let (first, above) = pairs-are (before ++ e ∷ []) es a b later in (
      subst (λ xs. IsFirstOverlap xs a b) (append_assoc before (e ∷ []) es) first,
      omega (arith, length-append before (e ∷ []), above),
    ))

pub pairs-have : (before es : List Entry) (a b : ℕ) → IsFirstOverlap (before ++ es) a b → length before ≤ b
    → Contains (overlapping before es) (a, b)
pairs-have before [] a b first above =
    let within = second-within (before ++ []) a b first.found in
    absurd (omega (arith, within, ap length (append-nil before)))
pairs-have before (e ∷ es) a b first above =
    either (eq-or-lt_of_le above)
    (λ same. Contains-append_left (pair_with (length before) (position_from (λ x. overlap x e) 0 before))
    (overlapping (before ++ e ∷ []) es) (a, b)
    (subst (λ n. Contains (pair_with (length before) (position_from (λ x. overlap x e) 0 before)) (a, n)) same
    (to_pair before es e a (subst (IsFirstOverlap (before ++ e ∷ es) a) (sym same) first))))
    (λ more. Contains-append_right (pair_with (length before) (position_from (λ x. overlap x e) 0 before))
    (overlapping (before ++ e ∷ []) es) (a, b)
    (pairs-have (before ++ e ∷ []) es a b
    (subst (λ xs. IsFirstOverlap xs a b) (sym (append_assoc before (e ∷ []) es)) first)
    (omega (arith, length-append before (e ∷ []), more))))

-- numbers from one on, each below the next
record RisesFrom (least : ℕ) (xs : List ℕ) : Type 0 where
  sorted : IsStrictlySortedBy nat_cmp xs
  above : AllByRecursion (λ x. least ≤ x) xs

all_below : (n : ℕ) (xs : List ℕ) → AllByRecursion (λ x. n + 1 ≤ x) xs → AllByRecursion (λ x. nat_cmp n x ≡ Less) xs
all_below n [] all = tt
all_below n (x ∷ xs) all = (sym (nat_cmp_is n x Less (omega (arith, all.0))), all_below n xs all.1)

all_weaker : (n : ℕ) (xs : List ℕ) → AllByRecursion (λ x. n + 1 ≤ x) xs → AllByRecursion (λ x. n ≤ x) xs
all_weaker n [] all = tt
all_weaker n (x ∷ xs) all = (omega (arith, all.0), all_weaker n xs all.1)

abbrev pub second : ℕ × ℕ → ℕ
second pair = pair.1

rises-pair : (n : ℕ) (o : Option ℕ) (pairs : List (ℕ × ℕ)) → RisesFrom (n + 1) (map second pairs)
    → RisesFrom n (map second (pair_with n o ++ pairs))
unfolding IsStrictlySortedBy
rises-pair n None pairs r = record { sorted = r.sorted; above = all_weaker n (map second pairs) r.above }
rises-pair n (Some m) pairs r =
    record {
      sorted = (all_below n (map second pairs) r.above, r.sorted);
      above = (omega arith, all_weaker n (map second pairs) r.above);
    }

rises : (before es : List Entry) → RisesFrom (length before) (map second (overlapping before es))
unfolding IsStrictlySortedBy
rises before [] = record { sorted = tt; above = tt }
rises before (e ∷ es) =
    let n : length (before ++ e ∷ []) ≡ length before + 1 = length-append before (e ∷ []) in
    rises-pair (length before) (position_from (λ x. overlap x e) 0 before) (overlapping (before ++ e ∷ []) es)
    (subst (λ least. RisesFrom least (map second (overlapping (before ++ e ∷ []) es))) n (rises (before ++ e ∷ []) es))

pub second-rises : (es : List Entry) → IsStrictlyIncreasing (map second (overlapping [] es))
second-rises es = IsStrictlyIncreasing-from_sorted (map second (overlapping [] es)) (rises [] es).sorted

some_words : (m : Mode) (size : ℕ) → 1 ≤ size → 1 ≤ words_of m size
some_words Single size h = omega arith
some_words Block size h = h
some_words Port size h = omega arith
some_words Hierarchical size h = omega arith

pub share-have : (a b : Register) → 1 ≤ a.size → 1 ≤ b.size → share_an_address a b ≡ true
    → (x : ℕ) × HasAddress a x × HasAddress b x
share-have a b p q h =
    let parts =
    and_parts (nat_lt a.address (b.address + words_of b.mode b.size))
    (nat_lt b.address (a.address + words_of a.mode a.size)) h in
    let a_below : a.address < b.address + words_of b.mode b.size = ltb-true _ _ parts.0 in
    let b_below : b.address < a.address + words_of a.mode a.size = ltb-true _ _ parts.1 in
    let a_some : 1 ≤ words_of a.mode a.size = some_words a.mode a.size p in
    let b_some : 1 ≤ words_of b.mode b.size = some_words b.mode b.size q in
    either (cases_lt a.address b.address)
    (λ less. (b.address, (omega arith, omega arith), (omega arith, omega arith)))
    (λ more. (a.address, (omega arith, omega arith), (omega arith, omega arith)))

pub have-share : (a b : Register) (x : ℕ) → HasAddress a x → HasAddress b x → share_an_address a b ≡ true
have-share a b x p q =
    let a_below : a.address < b.address + words_of b.mode b.size = omega (arith, p.0, q.1) in
    let b_below : b.address < a.address + words_of a.mode a.size = omega (arith, q.0, p.1) in
    and_from _ _ (lt-ltb _ _ a_below) (lt-ltb _ _ b_below)
