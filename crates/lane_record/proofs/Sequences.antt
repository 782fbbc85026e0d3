-- Lemmas on numbers that follow one another, and on what holds of each item and those before it.
use Rattle.std.proofs.Common.{◌≡◌, ℕ, ◌+◌, ◌≤◌, List, [], ◌∷◌, ◌++◌, length, refl, sym, subst, ◌∙◌}
use Rattle.std.proofs.Common.{arith, append_assoc}
use Rattle.std.proofs.lemmas.List.{append-nil}
use Rattle.std.specs.List.{AllByRecursion}
use Rattle.lane_record.specs.Lists.{CountsFrom, NeverFalls, EachBehind}

-- ---- counting

pub counts_push : (k n : ℕ) (ns : List ℕ) → CountsFrom k ns → n ≡ k + length ns → CountsFrom k (ns ++ n ∷ [])
counts_push k n [] is e = (omega (arith, e), tt)
counts_push k n (m ∷ ns) is e = (is.0, counts_push (k + 1) n ns is.1 (omega (arith, e)))

pub counts_last : (k n : ℕ) (ns : List ℕ) → CountsFrom k (ns ++ n ∷ []) → n ≡ k + length ns
counts_last k n [] is = let h = is.0 in omega (arith, h)
counts_last k n (m ∷ ns) is = let h = counts_last (k + 1) n ns is.1 in omega (arith, h)

pub counts_front : (k : ℕ) (ns ms : List ℕ) → CountsFrom k (ns ++ ms) → CountsFrom k ns
counts_front k [] ms is = tt
counts_front k (n ∷ ns) ms is = (is.0, counts_front (k + 1) ns ms is.1)

-- ---- rising

abbrev pub AtMost : ℕ → ℕ → Type 0
AtMost most n = n ≤ most

pub falls_push : (k n : ℕ) (ns : List ℕ) → NeverFalls k ns → AllByRecursion (AtMost n) ns → k ≤ n
    → NeverFalls k (ns ++ n ∷ [])
falls_push k n [] is all le = (le, tt)
falls_push k n (m ∷ ns) is all le = (is.0, falls_push m n ns is.1 all.1 all.0)

pub falls_front : (k : ℕ) (ns ms : List ℕ) → NeverFalls k (ns ++ ms) → NeverFalls k ns
falls_front k [] ms is = tt
falls_front k (n ∷ ns) ms is = (is.0, falls_front n ns ms is.1)

falls_from : (k n : ℕ) (ns : List ℕ) → NeverFalls k (ns ++ n ∷ []) → k ≤ n
falls_from k n [] is = is.0
falls_from k n (m ∷ ns) is = let h = falls_from m n ns is.1 in let l = is.0 in omega (arith, h, l)

pub falls_last : (k n : ℕ) (ns : List ℕ) → NeverFalls k (ns ++ n ∷ []) → AllByRecursion (AtMost n) ns
falls_last k n [] is = tt
falls_last k n (m ∷ ns) is = (falls_from m n ns is.1, falls_last m n ns is.1)

-- ---- of each item and those before it

pub each_push : {A : Type 0} (P : List A → A → Type 0) (front xs : List A) (x : A) → EachBehind P front xs
    → P (front ++ xs) x
    → EachBehind P front (xs ++ x ∷ [])
each_push P front [] x is one = (subst (λ l. P l x) (append-nil front) one, tt)
each_push P front (y ∷ xs) x is one =
    (is.0, each_push P (front ++ y ∷ []) xs x is.1 (subst (λ l. P l x) (sym (append_assoc front (y ∷ []) xs)) one))

pub each_front : {A : Type 0} (P : List A → A → Type 0) (front xs ys : List A) → EachBehind P front (xs ++ ys)
    → EachBehind P front xs
each_front P front [] ys is = tt
each_front P front (x ∷ xs) ys is = (is.0, each_front P (front ++ x ∷ []) xs ys is.1)

pub each_last : {A : Type 0} (P : List A → A → Type 0) (front xs : List A) (x : A)
    → EachBehind P front (xs ++ x ∷ []) → P (front ++ xs) x
each_last P front [] x is = subst (λ l. P l x) (sym (append-nil front)) is.0
each_last P front (y ∷ xs) x is = subst (λ l. P l x) (append_assoc front (y ∷ []) xs)
    (each_last P (front ++ y ∷ []) xs x is.1)

-- what holds of each may be replaced by what follows from it, where the item stands in the whole list
pub each_then : {A : Type 0} (P Q : List A → A → Type 0) (front xs : List A)
    → ((before : List A) (x : A) (after : List A) → before ++ x ∷ after ≡ front ++ xs → P before x → Q before x)
    → EachBehind P front xs → EachBehind Q front xs
each_then P Q front [] f is = tt
each_then P Q front (x ∷ xs) f is = (
  f front x xs refl is.0,
  each_then P Q (front ++ x ∷ []) xs (λ before y after e p. f before y after (e ∙ append_assoc front (x ∷ []) xs) p)
      is.1,
)
