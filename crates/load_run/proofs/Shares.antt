-- How many operations each client has.
use Rattle.std.proofs.Common.{◌≡◌, ℕ, zero, suc, ◌+◌, ◌-◌, ◌/◌, ◌%◌, ◌≤◌, ◌==◌, cond, arith, inl, inr}
use Rattle.std.specs.List.{sum}
use Rattle.std.proofs.lemmas.Bool.{cases_Bool}
use Rattle.std.proofs.lemmas.Bool.Decides.{nat_tests}
use Rattle.load_run.specs.Generated.{share, shares}

-- operation i is one more for its client alone
one_more : (i client : ℕ) → client ≤ 3
    → (i + (3 - client)) / 4 + cond (i % 4 == client) 1 0 ≡ (suc i + (3 - client)) / 4
one_more i client within =
    elim (cases_Bool (i % 4 == client)) [
      | inl test ↦ rw test (let own : i % 4 ≡ client = grind (arith, nat_tests) in omega arith)
      | inr test ↦ rw test (let away : i % 4 ≡ client → ⊥ = (λ own. grind (arith, nat_tests)) in omega arith)
    ]

pub share-is : (count client : ℕ) → client ≤ 3 → share count client ≡ (count + (3 - client)) / 4
share-is zero client within = omega arith
share-is (suc i) client within = omega (arith, share-is i client within, one_more i client within)

pub all-shares : (count : ℕ) → sum (shares count) ≡ count
all-shares count =
    let a = share-is count 0 (omega arith) in
    let b = share-is count 1 (omega arith) in
    let c = share-is count 2 (omega arith) in
    let d = share-is count 3 (omega arith) in
    omega (arith, a, b, c, d)
