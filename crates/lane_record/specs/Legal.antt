-- When a record is legal, beside what became of the asked bodies so far: an outcome, or none yet, for each Ask in
-- order. Profile.
use Rattle.std.specs.Prelude.{◌≡◌, ℕ, ◌≤◌, ◌<◌, true, false, List, Option, Some, None}
use Rattle.std.specs.List.{slice_get, AllByRecursion}
use Rattle.lane_record.specs.declared.outcome.Outcome.{Outcome}
use Rattle.lane_record.specs.declared.item.Item.{Item}
use Rattle.lane_record.specs.declared.item.What.{What}
use Rattle.lane_record.specs.declared.item.What.TheVariants.{Plan, Seal, Ask, Took}
use Rattle.lane_record.specs.Outcomes.{is_given_up}
use Rattle.lane_record.specs.Lists.{CountsFrom, NeverFalls, Throughout}
use Rattle.lane_record.specs.Items.{plan_in, ask_in, took_in, numbers, told_by_first, is_sealed, give_ups}
use Rattle.lane_record.specs.Claims.{Claim, claims, IsAskOf}
use Rattle.lane_record.specs.FirstSends.{PlacesCount}

-- A Seal is made by nobody, every other entry by a client.
abbrev pub HasMaker : ℕ → ℕ → What → Type 0
HasMaker client seq (Plan body) = 1 ≤ client
HasMaker client seq Seal = (client ≡ 0) × (seq ≡ 0)
HasMaker client seq (Ask give_ups) = 1 ≤ client
HasMaker client seq (Took outcome give_ups) = 1 ≤ client

abbrev pub IsMade : Item → Type 0
IsMade x = HasMaker x.client x.seq x.what

-- ---- the first part

-- a Plan and a Seal stand behind no Seal
abbrev pub NotBehindSeal : List Item → What → Type 0
NotBehindSeal front (Plan body) = is_sealed front ≡ false
NotBehindSeal front Seal = is_sealed front ≡ false
NotBehindSeal front (Ask give_ups) = Unit {0}
NotBehindSeal front (Took outcome give_ups) = Unit {0}

abbrev pub IsUnsealed : List Item → Item → Type 0
IsUnsealed front x = NotBehindSeal front x.what

-- Plans are numbered from 0, client by client. Planning may be closed by a Seal, once, and then it is over.
pub record PlansCount (items : List Item) : Type 0 where
  pub count : (client : ℕ) → CountsFrom 0 (numbers plan_in client items)
  pub unsealed : Throughout IsUnsealed items

-- ---- the second part

abbrev pub HasPlan : List Item → Item → What → Type 0
HasPlan front x (Plan body) = Unit {0}
HasPlan front x Seal = Unit {0}
HasPlan front x (Ask give_ups) = (body : List ℕ) × (told_by_first plan_in x.client x.seq front ≡ Some body)
HasPlan front x (Took outcome give_ups) = Unit {0}

abbrev pub IsPlanned : List Item → Item → Type 0
IsPlanned front x = HasPlan front x x.what

-- Each client's Asks have the numbers 0, 1, 2, .., and each stands behind the Plan of its number.
pub record AsksFollowPlans (items : List Item) : Type 0 where
  pub count : (client : ℕ) → CountsFrom 0 (numbers ask_in client items)
  pub planned : Throughout IsPlanned items

-- ---- the third part

-- what was taken is what became of the body, which was asked before and not taken yet
pub record TakesOf (front : List Item) (outcomes : List (Option Outcome)) (client seq : ℕ) (outcome : Outcome)
    : Type 0 where
  pub k : ℕ
  pub claim : Claim
  pub ask : IsAskOf front k client seq claim
  pub once : told_by_first took_in client seq front ≡ None
  pub became : slice_get outcomes k ≡ Some (Some outcome)

abbrev pub MayTake : List (Option Outcome) → List Item → Item → What → Type 0
MayTake outcomes front x (Plan body) = Unit {0}
MayTake outcomes front x Seal = Unit {0}
MayTake outcomes front x (Ask give_ups) = Unit {0}
MayTake outcomes front x (Took outcome give_ups) = TakesOf front outcomes x.client x.seq outcome

abbrev pub IsTookOf : List (Option Outcome) → List Item → Item → Type 0
IsTookOf outcomes front x = MayTake outcomes front x x.what

-- A Took stands behind the Ask of its client and number, at most once, and its outcome is what became of that body.
abbrev pub TakenOnce : List Item → List (Option Outcome) → Type 0
TakenOnce items outcomes = Throughout (IsTookOf outcomes) items

-- ---- the fourth part: PlacesCount, of the Asks and what became of them

-- ---- the fifth part

-- the Ask of this client and number stands at a smaller number of give-ups
abbrev pub IsAskedBefore : ℕ → List Item → ℕ → ℕ → Type 0
IsAskedBefore now front client seq =
    (k : ℕ) (claim : Claim) → IsAskOf front k client seq claim → claim.give_ups < now

abbrev pub IsLateEnough : List Item → Item → What → Type 0
IsLateEnough front x (Plan body) = Unit {0}
IsLateEnough front x Seal = Unit {0}
IsLateEnough front x (Ask give_ups) = Unit {0}
IsLateEnough front x (Took outcome give_ups) = is_given_up outcome ≡ true → IsAskedBefore give_ups front x.client x.seq

abbrev pub IsLate : List Item → Item → Type 0
IsLate front x = IsLateEnough front x x.what

-- A later entry tells no fewer give-ups than an earlier one. The Took of a body that was given up tells more of them
-- than the Ask of that body.
pub record GiveUpsRise (items : List Item) : Type 0 where
  pub rise : NeverFalls 0 (give_ups items)
  pub later : Throughout IsLate items

-- ---- all of it

pub record IsLegal (items : List Item) (outcomes : List (Option Outcome)) : Type 0 where
  pub made : AllByRecursion IsMade items
  pub plans_count : PlansCount items
  pub asks_follow_plans : AsksFollowPlans items
  pub taken_once : TakenOnce items outcomes
  pub places_count : PlacesCount (claims items) outcomes
  pub give_ups_rise : GiveUpsRise items
