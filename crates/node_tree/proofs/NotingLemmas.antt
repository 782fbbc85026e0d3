-- The first places that entries overlap, as they are lowered.
use Rattle.std.proofs.Common.{◌≡◌, ◌⊎◌, inl, inr, ℕ, zero, suc, ◌+◌, ◌<◌, ◌≤◌, List, [], ◌∷◌, ◌++◌, length, take, drop}
use Rattle.std.proofs.Common.{get_or, true, cond, Some, slice_get, slice_index, slice_set, refl, ap, sym, ◌∙◌, subst}
use Rattle.std.proofs.Common.{arith}
use Rattle.std.specs.List.{Contains}
use Rattle.std.specs.Option.{option_map}
use Rattle.std.proofs.lemmas.Bool.{lt-ltb, le-ltb, cases_lt}
use Rattle.std.proofs.lemmas.List.{append-nil, take_more, take_all, drop_all, length-set}
use Rattle.std.proofs.lemmas.List.Elements.{Contains-push_cases}
use Rattle.std.proofs.lemmas.Option.{slice_get_read, slice_get-map}
use Rattle.node_tree.specs.declared.register.Register.{Register}
use Rattle.node_tree.specs.Named.{Name, named_entries}
use Rattle.node_tree.specs.Overlaps.{overlap, overlap_at, passes}
use Rattle.node_tree.specs.OverlapSearch.{AreFound, Lowers, IsSettled, IsNoted, with_lowered}
use Rattle.node_tree.proofs.OverlapLemmas.{Entry, plain}
use Rattle.node_tree.proofs.CycleLemmas.{either}

abbrev pub Registers : Type 0
Registers = List (Name × Register)

-- the entry at a place, and whether two of them overlap
pub get-plain : (es : List Entry) (i : ℕ) (e : Entry) → i < length es → e ≡ get_or es i e
    → slice_get (named_entries es) i ≡ Some (plain e)
get-plain es i e h here =
    slice_get-map plain es i ∙ ap (option_map plain) (slice_get_read es (length es) i e refl h here)

pub at-both : (xs : Registers) (i j : ℕ) (a b : Name × Register) → slice_get xs i ≡ Some a → slice_get xs j ≡ Some b
    → overlap_at xs i j ≡ overlap a b
at-both xs i j a b p q =
    ap (passes (λ y. passes (λ x. overlap x y) (slice_get xs i))) q ∙ ap (passes (λ x. overlap x b)) p

pub at-plain : (es : List Entry) (i j : ℕ) (a b : Entry) → i < length es → a ≡ get_or es i a → j < length es
    → b ≡ get_or es j b
    → overlap_at (named_entries es) i j ≡ overlap (plain a) (plain b)
at-plain es i j a b i_in a_is j_in b_is =
    at-both (named_entries es) i j (plain a) (plain b) (get-plain es i a i_in a_is) (get-plain es j b j_in b_is)

-- a list after one number was written
get-set : (f : List ℕ) (b a k : ℕ)
    → ((k ≡ b) × (slice_index (slice_set f b a) k ≡ a)) ⊎ (slice_index (slice_set f b a) k ≡ slice_index f k)
get-set [] b a k = inr refl
get-set (x ∷ xs) zero a zero = inl (refl, refl)
get-set (x ∷ xs) zero a (suc k) = inr refl
get-set (x ∷ xs) (suc b) a zero = inr refl
get-set (x ∷ xs) (suc b) a (suc k) =
    either (get-set xs b a k) (λ (place, value). inl (ap (λ n. suc n) place, value)) inr

get-set_same : (f : List ℕ) (b a : ℕ) → b < length f → slice_index (slice_set f b a) b ≡ a
get-set_same [] b a h = absurd (omega arith)
get-set_same (x ∷ xs) zero a h = refl
get-set_same (x ∷ xs) (suc b) a h = get-set_same xs b a (omega arith)

pub lowers-same : (xs : Registers) (f : List ℕ) → Lowers xs f f
lowers-same xs f = record { each = refl; falls = λ k. omega arith; found = λ h. h }

pub lowers-more : (xs : Registers) (f g h : List ℕ) → Lowers xs f g → Lowers xs g h → Lowers xs f h
lowers-more xs f g h a b = record {
  each = b.each ∙ a.each;
  falls = λ k. omega (arith, a.falls k, b.falls k);
  found = λ old. b.found (a.found old);
}

found-write : (xs : Registers) (f : List ℕ) (a b : ℕ) → overlap_at xs a b ≡ true → AreFound xs f
    → AreFound xs (slice_set f b a)
found-write xs f a b meets found k within less =
    either (get-set f b a k)
    (λ (place, value). subst (λ m. overlap_at xs m k ≡ true) (sym value)
    (subst (λ m. overlap_at xs a m ≡ true) (sym place) meets))
    (λ same. subst (λ m. overlap_at xs m k ≡ true) (sym same) (found k within (subst (λ m. m < k) same less)))

lowers-write : (xs : Registers) (f : List ℕ) (at n : ℕ) → n < slice_index f at → overlap_at xs n at ≡ true
    → Lowers xs f (slice_set f at n)
lowers-write xs f at n better meets = record {
  each = length-set f at n;
  falls = λ k. either (get-set f at n k)
      (λ (place, value). let there : slice_index f at
      ≡ slice_index f k = ap (slice_index f) (sym place) in omega (arith, value, there))
      (λ same. omega (arith, same));
  found = found-write xs f n at meets;
}

-- lowering is a write, or nothing
lowered-cases : (f : List ℕ) (at n : ℕ)
    → ((n < slice_index f at) × (with_lowered f at n ≡ slice_set f at n)) ⊎ ((slice_index f at ≤ n) × (with_lowered f at n ≡ f))
lowered-cases f at n =
    either (cases_lt n (slice_index f at))
    (λ less. inl (less, ap (λ b. cond b (slice_set f at n) f) (lt-ltb n (slice_index f at) less)))
    (λ more. inr (more, ap (λ b. cond b (slice_set f at n) f) (le-ltb n (slice_index f at) more)))

pub lowers-lowered : (xs : Registers) (f : List ℕ) (at n : ℕ) → (n < slice_index f at → overlap_at xs n at ≡ true)
    → Lowers xs f (with_lowered f at n)
lowers-lowered xs f at n meets =
    either (lowered-cases f at n)
    (λ (less, is). subst (Lowers xs f) (sym is) (lowers-write xs f at n less (meets less)))
    (λ (more, is). subst (Lowers xs f) (sym is) (lowers-same xs f))

pub lowered-value : (f : List ℕ) (at n : ℕ) → at < length f → slice_index (with_lowered f at n) at ≤ n
lowered-value f at n within =
    either (lowered-cases f at n)
    (λ (less, is). let value = ap (λ g. slice_index g at) is ∙ get-set_same f at n within in omega (arith, value))
    (λ (more, is). let value = ap (λ g. slice_index g at) is in omega (arith, value))

pub lowered-falls : (f : List ℕ) (at n k : ℕ) → slice_index (with_lowered f at n) k ≤ slice_index f k
lowered-falls f at n k =
    either (lowered-cases f at n)
    (λ (less, is). either (get-set f at n k)
    (λ (place, value). let there : slice_index f at
    ≡ slice_index f k = ap (slice_index f) (sym place) in let whole = ap (λ g. slice_index g k) is in omega
    (arith, whole, value, there))
    (λ same. let whole = ap (λ g. slice_index g k) is in omega (arith, whole, same)))
    (λ (more, is). let whole = ap (λ g. slice_index g k) is in omega (arith, whole))

pub length-lowered : (f : List ℕ) (at n : ℕ) → length (with_lowered f at n) ≡ length f
length-lowered f at n =
    either (lowered-cases f at n) (λ (less, is). ap length is ∙ length-set f at n) (λ (more, is). ap length is)

pub settled-falls : (xs : Registers) (f g : List ℕ) (a b : ℕ) → slice_index g b ≤ slice_index f b → IsSettled xs f a b
    → IsSettled xs g a b
settled-falls xs f g a b falls s less = s (omega (arith, falls))

pub noted-none : (xs : Registers) (f : List ℕ) (later : ℕ) → IsNoted xs f f [] later
noted-none xs f later = record { lowers = lowers-same xs f; settled = λ a (k, within, is). absurd (omega arith) }

pub noted-more : (xs : Registers) (f g h earlier : List ℕ) (i later place : ℕ) → i < length earlier
    → place ≡ get_or earlier i 0
    → IsNoted xs f g (take i earlier) later → Lowers xs g h → IsSettled xs h place later
    → IsNoted xs f h (take (i + 1) earlier) later
noted-more xs f g h earlier i later place within here n lowers settled = record {
  lowers = lowers-more xs f g h n.lowers lowers;
  settled =
      λ a there. either (Contains-push_cases (take i earlier) place a
      (subst (λ ps. Contains ps a)
      (take_more earlier i 0 within ∙ ap (λ x. take i earlier ++ x ∷ []) (sym here)) there))
      (λ before. settled-falls xs g h a later (lowers.falls later) (n.settled a before))
      (λ same. subst (λ x. IsSettled xs h x later) same settled);
}

-- a list that was written whole
pub written : (n : ℕ) (xs ys : List ℕ) → length xs ≡ length ys → n ≡ length ys → take n (xs ++ drop (length xs) ys) ≡ xs
written n xs ys same whole =
    let none : drop (length xs) ys ≡ [] = drop_all (length xs) ys (omega arith) in
    ap (λ rest. take n (xs ++ rest)) none ∙ ap (take n) (append-nil xs) ∙ take_all n xs (omega arith)
