-- What a lane keeps of its give-ups. Profile.
use Rattle.std.specs.Prelude.{◌≡◌, ℕ, ◌+◌, ◌*◌, ◌-◌, ◌^◌, ◌≤◌, ◌<◌, min, Bool, true, false, List, Option, Some}
use Rattle.std.specs.Prelude.{None, IfSome, [], ◌∷◌, if◌then◌else◌}
use Rattle.std.specs.List.{AllByRecursion, slice_get}
use Rattle.lane_record.specs.declared.outcome.Outcome.{Outcome}
use Rattle.lane_record.specs.declared.item.Item.{Item}
use Rattle.lane_record.specs.Outcomes.{TellsRounds, is_given_up, is_timed_out, is_lost}
use Rattle.lane_record.specs.Items.{give_ups}
use Rattle.lane_record.specs.Claims.{Claim, claims}
use Rattle.lane_record.specs.Legal.{IsLegal}

-- every number of give-ups in a record is at most this
abbrev pub AreWithin : ℕ → List Item → Type 0
AreWithin most items = AllByRecursion (λ n. n ≤ most) (give_ups items)

-- the bodies that the hub gave up were asked when the lane had given up less often
abbrev pub AreGivenUpBefore : ℕ → List Claim → List (Option Outcome) → Type 0
AreGivenUpBefore now claims outcomes = (k : ℕ) (claim : Claim) (outcome : Outcome) → slice_get claims k ≡ Some claim
    → slice_get outcomes k ≡ Some (Some outcome) → is_given_up outcome ≡ true → claim.give_ups < now

abbrev pub has_timed_out : Option Outcome → Bool
has_timed_out None = false
has_timed_out (Some outcome) = is_timed_out outcome

-- how many bodies were timed out
abbrev pub timeouts : List (Option Outcome) → ℕ
timeouts [] = 0
timeouts (o ∷ os) = if has_timed_out o then 1 + timeouts os else timeouts os

-- each body that was timed out tells so many rounds
abbrev pub TellRounds : ℕ → List (Option Outcome) → Type 0
TellRounds rounds outcomes = AllByRecursion (λ (o : Option Outcome). IfSome o (TellsRounds rounds)) outcomes

-- a body is lost with the link only where this holds
abbrev pub AreLostOnlyIf : Type 0 → List (Option Outcome) → Type 0
AreLostOnlyIf P outcomes =
    (k : ℕ) (outcome : Outcome) → slice_get outcomes k ≡ Some (Some outcome) → is_lost outcome ≡ true → P

-- A count of 64 bits, which stands still at its end, has reached this.
abbrev pub HasReached : ℕ → ℕ → Type 0
HasReached n count = min n (2 ^ 64 - 1) ≤ count

-- The record of a lane that gave up so many times, and what became of its asked bodies.
pub record IsKept (items : List Item) (outcomes : List (Option Outcome)) (window given_up : ℕ) : Type 0 where
  pub legal : IsLegal items outcomes
  pub within : AreWithin given_up items
  pub given_up_before : AreGivenUpBefore given_up (claims items) outcomes
  pub few : timeouts outcomes ≤ window * given_up

-- Each give-up cost `rounds + 1` quiet receives, and the round under way as many as status requests were wanted in it.
abbrev pub HasWaited : ℕ → ℕ → ℕ → ℕ → Type 0
HasWaited rounds given_up status_requests quiets =
    HasReached ((rounds + 1) * given_up + status_requests) quiets
