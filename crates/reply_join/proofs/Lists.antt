-- Two lists that begin with one another.
use Rattle.std.proofs.Common.{◌≡◌, ℕ, zero, suc, ◌+◌, ◌≤◌, List, [], ◌∷◌, ◌++◌, length, take, refl, ap, arith}

-- what two lists with the same front have in common beyond it
pub beyond : {A : Type 0} (a b front rest : List A) → a ++ b ≡ front ++ rest → length a ≤ length front
    → (more : List A) × (front ≡ a ++ more) × (b ≡ more ++ rest)
beyond [] b front rest e le = (front, refl, e)
beyond (x ∷ a) b [] rest e le = absurd (omega arith)
beyond {A = A} (x ∷ a) b (y ∷ front) rest e le =
    let head : x ≡ y = cc in
    let tail : a ++ b ≡ front ++ rest = cc in
    let later = beyond a b front rest tail (omega arith) in
    let front_is : front ≡ a ++ later.0 = later.1 in
    (later.0, cc, later.2)

pub take_past : {A : Type 0} (a b : List A) (n k : ℕ) → n ≡ length a + k → take n (a ++ b) ≡ a ++ take k b
take_past [] b n k e = let same : n ≡ k = omega arith in ap (λ m. take m b) same
take_past (x ∷ a) b zero k e = absurd (omega arith)
take_past (x ∷ a) b (suc n) k e = ap (λ xs. x ∷ xs) (take_past a b n k (omega arith))

pub no_words : {A : Type 0} (a b : List A) → a ++ b ≡ [] → (a ≡ []) × (b ≡ [])
no_words [] b e = (refl, e)
no_words (x ∷ a) b e = absurd cc
