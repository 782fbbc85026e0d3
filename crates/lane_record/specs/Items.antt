-- What the entries of a record tell, and how they are looked up. Profile.
use Rattle.std.specs.Prelude.{ℕ, ◌==◌, ◌&&◌, ◌||◌, Bool, true, false, if◌then◌else◌, List, [], ◌∷◌, length}
use Rattle.std.specs.Prelude.{Option, Some, None, is_some}
use Rattle.std.specs.Option.{option_or}
use Rattle.lane_record.specs.declared.outcome.Outcome.{Outcome}
use Rattle.lane_record.specs.declared.item.Item.{Item}
use Rattle.lane_record.specs.declared.item.What.{What}
use Rattle.lane_record.specs.declared.item.What.TheVariants.{Plan, Seal, Ask, Took}

-- the body of a Plan
abbrev pub plan_in : What → Option (List ℕ)
plan_in (Plan body) = Some body
plan_in Seal = None
plan_in (Ask give_ups) = None
plan_in (Took outcome give_ups) = None

-- of an Ask: how many times the lane had given up
abbrev pub ask_in : What → Option ℕ
ask_in (Plan body) = None
ask_in Seal = None
ask_in (Ask give_ups) = Some give_ups
ask_in (Took outcome give_ups) = None

-- the outcome of a Took
abbrev pub took_in : What → Option Outcome
took_in (Plan body) = None
took_in Seal = None
took_in (Ask give_ups) = None
took_in (Took outcome give_ups) = Some outcome

abbrev pub is_seal : What → Bool
is_seal (Plan body) = false
is_seal Seal = true
is_seal (Ask give_ups) = false
is_seal (Took outcome give_ups) = false

-- how many times the lane had given up, where the entry tells it
abbrev pub give_ups_in : What → Option ℕ
give_ups_in (Plan body) = None
give_ups_in Seal = None
give_ups_in (Ask give_ups) = Some give_ups
give_ups_in (Took outcome give_ups) = Some give_ups

-- the entry is of this client's body of this number
abbrev pub is_of : ℕ → ℕ → Item → Bool
is_of client seq x = (x.client == client) && (x.seq == seq)

-- the numbers of a client's entries of one kind, in order
abbrev pub numbers : {A : Type 0} → (What → Option A) → ℕ → List Item → List ℕ
numbers kind client [] = []
numbers kind client (x ∷ xs) =
    if (x.client == client) && is_some (kind x.what)
    then x.seq ∷ numbers kind client xs
    else numbers kind client xs

-- what the first entry of one kind, client and number tells
abbrev pub told_by_first : {A : Type 0} → (What → Option A) → ℕ → ℕ → List Item → Option A
told_by_first kind client seq [] = None
told_by_first kind client seq (x ∷ xs) =
    option_or (if is_of client seq x then kind x.what else None) (told_by_first kind client seq xs)

-- how many bodies a client planned, and how many it asked
abbrev pub planned_count : ℕ → List Item → ℕ
planned_count client items = length (numbers plan_in client items)

abbrev pub asked_count : ℕ → List Item → ℕ
asked_count client items = length (numbers ask_in client items)

-- whether planning was closed
abbrev pub is_sealed : List Item → Bool
is_sealed [] = false
is_sealed (x ∷ xs) = is_seal x.what || is_sealed xs

-- the numbers of give-ups, in order
abbrev pub and_number : Option ℕ → List ℕ → List ℕ
and_number None later = later
and_number (Some n) later = n ∷ later

abbrev pub give_ups : List Item → List ℕ
give_ups [] = []
give_ups (x ∷ xs) = and_number (give_ups_in x.what) (give_ups xs)
