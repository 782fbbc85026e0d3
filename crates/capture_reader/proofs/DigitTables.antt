-- A table says what a function does where both agree at each of its places, which computes.
use Rattle.std.proofs.Common.{◌≡◌, ◌⊎◌, ℕ, zero, suc, ◌<◌, ◌&&◌, eqb, List, slice_index, Bool, true, false, inl, inr, refl}
use Rattle.std.proofs.Common.{arith}
use Rattle.std.proofs.lemmas.Bool.{eqb-true, cases_eq}

-- at each place below a bound
abbrev pub agrees : List ℕ → (ℕ → ℕ) → ℕ → Bool
agrees table f zero = true
agrees table f (suc n) = eqb (slice_index table n) (f n) && agrees table f n

both : (a b : Bool) → (a && b) ≡ true → (a ≡ true) × (b ≡ true)
both true true e = (refl, refl)
both true false e = absurd cc
both false b e = absurd cc

at_by : (table : List ℕ) (f : ℕ → ℕ) (n k : ℕ) → (k ≡ n) ⊎ (k ≡ n → ⊥) → slice_index table n ≡ f n
    → (k < n → slice_index table k ≡ f k) → k < suc n → slice_index table k ≡ f k
at_by table f n k (inl same) here below within = rw same here
at_by table f n k (inr other) here below within = below (omega (arith, other, within))

pub read_by_table : (table : List ℕ) (f : ℕ → ℕ) (n k : ℕ) → agrees table f n ≡ true → k < n → slice_index table k ≡ f k
read_by_table table f zero k all within = absurd (omega arith)
read_by_table table f (suc n) k all within =
    let parts = both (eqb (slice_index table n) (f n)) (agrees table f n) all in
    at_by table f n k (cases_eq k n) (eqb-true (slice_index table n) (f n) parts.0)
    (λ less. read_by_table table f n k parts.1 less) within
