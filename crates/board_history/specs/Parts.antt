-- What holds of the order of a board, part by part. Profile.
use Rattle.std.specs.Prelude.{◌≡◌, ℕ, ◌≤◌, List, [], ◌∷◌, length, Option, Some, None}
use Rattle.std.specs.List.{AllByRecursion}
use Rattle.ipb_base.specs.Lists.{IsPrefix}
use Rattle.board_bus.specs.Cells.{CellMap}
use Rattle.board_bus.specs.Bodies.{replay}
use Rattle.lane_record.specs.declared.outcome.Outcome.{Outcome}
use Rattle.lane_record.specs.declared.outcome.Outcome.TheVariants.{Replied, TimedOut, Unsent, LinkLost}
use Rattle.lane_record.specs.Lists.{CountsFrom}
use Rattle.world_model.specs.Places.{at_place}
use Rattle.board_history.specs.Order.{Placed, bodies_with_places, order, places_of, bodies_in, RisesFrom}

-- The places on a board are 1, 2, 3, .. up to the number of bodies sent, and each belongs to one body.
abbrev pub HasOneOrder : List (List (List ℕ)) → List (List Outcome) → Type 0
HasOneOrder bodies outcomes = CountsFrom 1 (places_of (order bodies outcomes))

-- The places of each client's bodies rise.
abbrev pub KeepsScripts : List (List (List ℕ)) → List (List Outcome) → Type 0
KeepsScripts [] outcomes = Unit {0}
KeepsScripts (bodies ∷ later) [] = Unit {0}
KeepsScripts (bodies ∷ later) (outcomes ∷ others) =
    RisesFrom 1 (places_of (bodies_with_places bodies outcomes)) × KeepsScripts later others

-- the reply is one of these at its place
abbrev pub IsReplyOf : List (List ℕ) → Outcome → Type 0
IsReplyOf replies (Replied place words) = at_place replies place ≡ Some words
IsReplyOf replies (TimedOut place rounds) = Unit {0}
IsReplyOf replies Unsent = Unit {0}
IsReplyOf replies (LinkLost place) = Unit {0}

-- Each reply is the one that a single-thread bus gives at its place, which opens like this and replays the bodies by
-- place.
abbrev pub AreRepliesOf : CellMap → List Placed → List (List Outcome) → Type 0
AreRepliesOf opening order outcomes =
    AllByRecursion (AllByRecursion (IsReplyOf (replay opening (bodies_in order)).replies)) outcomes

-- ---- late answers

-- Each item of the second list stands so beside the one at its position in the first, which may be longer.
abbrev pub AreBeside : {A B : Type 0} → (A → B → Type 0) → List A → List B → Type 0
AreBeside R xs [] = Unit {0}
AreBeside R [] (y ∷ ys) = ⊥
AreBeside R (x ∷ xs) (y ∷ ys) = R x y × AreBeside R xs ys

-- a late answer is one of these replies at its place, and only a body that was timed out has one
abbrev pub IsLateReplyOf : List (List ℕ) → Outcome → Option (List ℕ) → Type 0
IsLateReplyOf replies outcome None = Unit {0}
IsLateReplyOf replies (TimedOut place rounds) (Some words) = at_place replies place ≡ Some words
IsLateReplyOf replies other (Some words) = ⊥

-- Each late answer is the one that a single-thread bus gives at its place, which opens like this and replays the bodies
-- by place.
abbrev pub AreLateRepliesOf : CellMap → List Placed → List (List Outcome) → List (List (Option (List ℕ))) → Type 0
AreLateRepliesOf opening order outcomes lates =
    AreBeside (AreBeside (IsLateReplyOf (replay opening (bodies_in order)).replies)) outcomes lates

-- ---- what was executed

-- a body that was replied to is one of the first so many of the order
abbrev pub IsExecuted : ℕ → Outcome → Type 0
IsExecuted executed (Replied place words) = place ≤ executed
IsExecuted executed (TimedOut place rounds) = Unit {0}
IsExecuted executed Unsent = Unit {0}
IsExecuted executed (LinkLost place) = Unit {0}

-- so is a body that was answered late
abbrev pub IsExecutedLate : ℕ → Outcome → Option (List ℕ) → Type 0
IsExecutedLate executed outcome None = Unit {0}
IsExecutedLate executed (TimedOut place rounds) (Some words) = place ≤ executed
IsExecutedLate executed other (Some words) = ⊥

-- What a board executed is a front of the order, so each body of it once, and each body that was replied to, in time or
-- late, is in it.
pub record IsExecutedOnce (order : List Placed) (outcomes : List (List Outcome))
    (lates : List (List (Option (List ℕ)))) (executed : List (List ℕ)) : Type 0 where
  pub front : IsPrefix executed (bodies_in order)
  pub replied : AllByRecursion (AllByRecursion (IsExecuted (length executed))) outcomes
  pub late : AreBeside (AreBeside (IsExecutedLate (length executed))) outcomes lates

-- the board replied
abbrev pub IsReplied : Outcome → Type 0
IsReplied (Replied place words) = Unit {0}
IsReplied (TimedOut place rounds) = ⊥
IsReplied Unsent = ⊥
IsReplied (LinkLost place) = ⊥

-- every body of every client was replied to
abbrev pub AllReplied : List (List Outcome) → Type 0
AllReplied outcomes = AllByRecursion (AllByRecursion IsReplied) outcomes
