-- What came late for bodies that were timed out, by place: one for each place from 1 on, or none. Profile.
use Rattle.std.specs.Prelude.{◌≡◌, ℕ, zero, suc, List, [], ◌∷◌, Option, Some, None, get_or, slice_set}
use Rattle.std.specs.List.{Contains, slice_get}
use Rattle.lane_record.specs.declared.outcome.Outcome.{Outcome}
use Rattle.lane_record.specs.declared.outcome.Outcome.TheVariants.{TimedOut}

-- what came late at a place
abbrev pub late_in : List (Option (List ℕ)) → ℕ → Option (List ℕ)
late_in lates zero = None
late_in lates (suc k) = get_or lates k None

-- a late answer comes at a place; where there is no such place nothing changes
abbrev pub put_late : ℕ → List ℕ → List (Option (List ℕ)) → List (Option (List ℕ))
put_late zero words lates = lates
put_late (suc k) words lates = slice_set lates k (Some words)

-- the late answers that a hub hands out
abbrev pub put_lates : List (ℕ × List ℕ) → List (Option (List ℕ)) → List (Option (List ℕ))
put_lates [] lates = lates
put_lates (late ∷ later) lates = put_lates later (put_late late.0 late.1 lates)

-- what came late at a place stays
abbrev pub KeepsLates : List (Option (List ℕ)) → List (Option (List ℕ)) → Type 0
KeepsLates old new = (place : ℕ) (words : List ℕ) → late_in old place ≡ Some words → late_in new place ≡ Some words

-- what came late at a place is a late answer that was handed out for it
abbrev pub AreLatesToldBy : List (ℕ × List ℕ) → List (Option (List ℕ)) → Type 0
AreLatesToldBy told lates =
    (place : ℕ) (words : List ℕ) → late_in lates place ≡ Some words → Contains told (place, words)

-- what came late at each place is exactly what was handed out for it
pub record AreLatesBy (told : List (ℕ × List ℕ)) (lates : List (Option (List ℕ))) : Type 0 where
  pub came : AreLatesToldBy told lates
  pub kept : (place : ℕ) (words : List ℕ) → Contains told (place, words) → late_in lates place ≡ Some words

-- the body at this place was timed out
pub record WasTimedOut (outcomes : List (Option Outcome)) (place : ℕ) : Type 0 where
  pub number : ℕ
  pub rounds : ℕ
  pub there : slice_get outcomes number ≡ Some (Some (TimedOut place rounds))
