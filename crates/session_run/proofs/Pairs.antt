-- Pairs of a lane and a number of bodies.
use Rattle.std.proofs.Common.{◌≡◌, ℕ, zero, ◌+◌, ◌≤◌, ◌<◌, ◌==◌, ◌∙◌, Bool, true, false, cond, List, [], ◌∷◌, ◌++◌}
use Rattle.std.proofs.Common.{length, get_or, refl, sym, ap, arith, append-nil, append_assoc, suc}
use Rattle.std.proofs.lemmas.Bool.{cond_both}
use Rattle.std.proofs.lemmas.Bool.Decides.{nat_tests}
use Rattle.client_threads.specs.Clients.{AreRisingFrom, bodies_on}
use Rattle.session_run.specs.Plans.{pair_of, pairs_from}

-- one more lane
pub pairs_more : (lane : ℕ) (counts : List ℕ) (count : ℕ)
    → pairs_from lane (counts ++ count ∷ []) ≡ pairs_from lane counts ++ pair_of (lane + length counts) count
pairs_more lane [] count =
    let same : lane ≡ lane + 0 = omega arith in
    append-nil (pair_of lane count) ∙ ap (λ (n : ℕ). pair_of n count) same
pairs_more lane (c ∷ counts) count =
    let on : lane + 1 + length counts ≡ lane + suc (length counts) = omega arith in
    ap (λ (ps : List (ℕ × ℕ)). pair_of lane c ++ ps)
    (pairs_more (lane + 1) counts count ∙ ap (λ (n : ℕ). pairs_from (lane + 1) counts ++ pair_of n count) on)
    ∙ sym (append_assoc (pair_of lane c) (pairs_from (lane + 1) counts) (pair_of (lane + suc (length counts)) count))

rising_lower : (low least many : ℕ) (asks : List (ℕ × ℕ)) → low ≤ least → AreRisingFrom least many asks
    → AreRisingFrom low many asks
rising_lower low least many [] le are = tt
rising_lower low least many (ask ∷ asks) le are = (omega (arith, le, are.0), are.1, are.2)

-- the pairs are by rising lane
pub pairs_rise : (lane many : ℕ) (counts : List ℕ) → lane + length counts ≤ many
    → AreRisingFrom lane many (pairs_from lane counts)
pairs_rise lane many [] le = tt
pairs_rise lane many (count ∷ counts) le =
    let later = pairs_rise (lane + 1) many counts (omega (arith, le)) in
    cond_both (count == 0) [] ((lane, count) ∷ [])
    (λ (front : List (ℕ × ℕ)). AreRisingFrom lane many (front ++ pairs_from (lane + 1) counts))
    (λ _. rising_lower lane (lane + 1) many (pairs_from (lane + 1) counts) (omega arith) later)
    (λ _. (omega arith, omega (arith, le), later))

-- nothing is asked of a lane before the first
none_before : (at lane : ℕ) (counts : List ℕ) → at < lane → bodies_on at (pairs_from lane counts) ≡ 0
none_before at lane [] lt = refl
none_before at lane (count ∷ counts) lt =
    let later = none_before at (lane + 1) counts (omega (arith, lt)) in
    let apart : (lane == at) ≡ false = grind (arith, nat_tests) in
    cond_both (count == 0) [] ((lane, count) ∷ [])
    (λ (front : List (ℕ × ℕ)). bodies_on at (front ++ pairs_from (lane + 1) counts) ≡ 0)
    (λ _. later)
    (λ _. ap (λ (b : Bool). cond b (count + bodies_on at (pairs_from (lane + 1) counts))
    (bodies_on at (pairs_from (lane + 1) counts))) apart ∙ later)

-- what is asked of a lane is its number
pub bodies_at : (at lane index : ℕ) (counts : List ℕ) → at ≡ lane + index
    → bodies_on at (pairs_from lane counts) ≡ get_or counts index 0
bodies_at at lane index [] is = refl
bodies_at at lane zero (count ∷ counts) is =
    let here : (lane == at) ≡ true = grind (arith, nat_tests) in
    let none = none_before at (lane + 1) counts (omega (arith, is)) in
    let rest = bodies_on at (pairs_from (lane + 1) counts) in
    cond_both (count == 0) [] ((lane, count) ∷ [])
    (λ (front : List (ℕ × ℕ)). bodies_on at (front ++ pairs_from (lane + 1) counts) ≡ count)
    (λ e. let zero_count : count ≡ 0 = grind (arith, nat_tests) in none ∙ sym zero_count)
    (λ _. ap (λ (b : Bool). cond b (count + rest) rest) here ∙ omega (arith, none))
bodies_at at lane (suc index) (count ∷ counts) is =
    let apart : (lane == at) ≡ false = grind (arith, nat_tests) in
    let rest = bodies_on at (pairs_from (lane + 1) counts) in
    let later = bodies_at at (lane + 1) index counts (omega (arith, is)) in
    cond_both (count == 0) [] ((lane, count) ∷ [])
    (λ (front : List (ℕ × ℕ)). bodies_on at (front ++ pairs_from (lane + 1) counts) ≡ get_or counts index 0)
    (λ _. later)
    (λ _. ap (λ (b : Bool). cond b (count + rest) rest) apart ∙ later)
