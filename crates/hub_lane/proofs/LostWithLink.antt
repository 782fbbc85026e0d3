-- What a failed link loses, one Ask at a time.
use Rattle.std.proofs.Common.{◌≡◌, ℕ, zero, suc, ◌+◌, true, false, List, [], ◌∷◌, ◌++◌, take, drop, Option}
use Rattle.std.proofs.Common.{Some, None, refl, sym, ap}
use Rattle.std.specs.Prelude.{nat_lt, if◌then◌else◌}
use Rattle.std.specs.List.{slice_get}
use Rattle.lane_record.specs.declared.outcome.Outcome.{Outcome}
use Rattle.lane_record.specs.declared.outcome.Outcome.TheVariants.{LinkLost}
use Rattle.lane_record.specs.Outcomes.{is_sent}
use Rattle.lane_record.specs.Offers.{lost_after, put}

-- so many are done, and so many of them have a place
abbrev pub lost_from : ℕ → ℕ → ℕ → List (Option Outcome) → List (Option Outcome)
lost_from ask place sent outcomes = take ask outcomes ++ lost_after place sent (drop ask outcomes)

pub settled_stays : (outcomes : List (Option Outcome)) (ask place sent : ℕ) (outcome : Outcome)
    → slice_get outcomes ask ≡ Some (Some outcome)
    → lost_from (suc ask) (if is_sent outcome then place + 1 else place) sent outcomes
    ≡ lost_from ask place sent outcomes
settled_stays [] ask place sent outcome there = absurd cc
settled_stays (Some o ∷ os) zero place sent outcome there =
    let same : o ≡ outcome = cc in
    ap (λ (x : Outcome). Some o ∷ lost_after (if is_sent x then place + 1 else place) sent os) (sym same)
settled_stays (None ∷ os) zero place sent outcome there = absurd cc
settled_stays (o ∷ os) (suc ask) place sent outcome there =
    ap (λ (xs : List (Option Outcome)). o ∷ xs) (settled_stays os ask place sent outcome there)

pub lost_at_place : (outcomes : List (Option Outcome)) (ask place sent : ℕ) → slice_get outcomes ask ≡ Some None
    → nat_lt place sent ≡ true
    → lost_from (suc ask) (place + 1) sent (put ask (LinkLost (Some (place + 1))) outcomes)
    ≡ lost_from ask place sent outcomes
lost_at_place [] ask place sent there less = absurd cc
lost_at_place (Some o ∷ os) zero place sent there less = absurd cc
lost_at_place (None ∷ os) zero place sent there less = rw less refl
lost_at_place (o ∷ os) (suc ask) place sent there less =
    ap (λ (xs : List (Option Outcome)). o ∷ xs) (lost_at_place os ask place sent there less)

pub lost_unsent : (outcomes : List (Option Outcome)) (ask place sent : ℕ) → slice_get outcomes ask ≡ Some None
    → nat_lt place sent ≡ false
    → lost_from (suc ask) place sent (put ask (LinkLost None) outcomes) ≡ lost_from ask place sent outcomes
lost_unsent [] ask place sent there past = absurd cc
lost_unsent (Some o ∷ os) zero place sent there past = absurd cc
lost_unsent (None ∷ os) zero place sent there past = rw past refl
lost_unsent (o ∷ os) (suc ask) place sent there past =
    ap (λ (xs : List (Option Outcome)). o ∷ xs) (lost_unsent os ask place sent there past)
