-- A late answer is of a body that was timed out, and comes once. Profile.
use Rattle.std.specs.Prelude.{◌≡◌, ◌⊎◌, ℕ, ◌+◌, ◌≤◌, ◌&&◌, nat_le, Bool, false, if◌then◌else◌, List, [], ◌∷◌, length}
use Rattle.std.specs.Prelude.{map}
use Rattle.std.specs.List.{AllByRecursion}
use Rattle.world_model.specs.declared.offered.OpenPlace.{OpenPlace}
use Rattle.world_model.specs.declared.offered.Fate.{Fate}
use Rattle.world_model.specs.declared.offered.Fate.TheVariants.{Replied, TimedOut, Unsent}
use Rattle.world_model.specs.Hub.{Hub, HandedOut, hands_out, places}
use Rattle.world_model.specs.Facts.{has}
use Rattle.world_model.specs.History.{times}

-- one of the fates is that this place was timed out after so many rounds
abbrev pub HasTimedOut : ℕ → ℕ → List (ℕ × Fate) → Type 0
HasTimedOut rounds place [] = ⊥
HasTimedOut rounds place (fate ∷ fates) = (fate.1 ≡ TimedOut place rounds) ⊎ HasTimedOut rounds place fates

-- an open place that nobody waits for was timed out
abbrev pub IsWaitedOrTimedOut : ℕ → List (ℕ × Fate) → OpenPlace → Type 0
IsWaitedOrTimedOut rounds fates o = o.waited ≡ false → HasTimedOut rounds o.place fates

-- the place of a late answer was timed out
abbrev pub IsOfTimedOut : ℕ → List (ℕ × Fate) → ℕ × List ℕ → Type 0
IsOfTimedOut rounds fates late = HasTimedOut rounds late.0 fates

-- a place that was sent and is open no more
pub record IsClosedPlace (sent : ℕ) (open_places : List ℕ) (place : ℕ) : Type 0 where
  pub from_one : 1 ≤ place
  pub up_to_last : place ≤ sent
  pub closed : has place open_places ≡ false

abbrev pub place_of_late : ℕ × List ℕ → ℕ
place_of_late late = late.0

abbrev pub late_places : List (ℕ × List ℕ) → List ℕ
late_places lates = map place_of_late lates

-- the places whose reply came in time
abbrev pub replied_places : List (ℕ × Fate) → List ℕ
replied_places [] = []
replied_places ((tag, Replied place words) ∷ fates) = place ∷ replied_places fates
replied_places ((tag, TimedOut place rounds) ∷ fates) = replied_places fates
replied_places ((tag, Unsent) ∷ fates) = replied_places fates

-- how often a place stands among those that are open, those that were replied and those with a late answer
abbrev pub standings : HandedOut → List ℕ → ℕ → ℕ
standings told open_places place =
    times place open_places + times place (replied_places told.fates) + times place (late_places told.lates)

abbrev pub is_sent_place : ℕ → ℕ → Bool
is_sent_place sent place = nat_le 1 place && nat_le place sent

-- Of a hub, after so much was handed out, and of all its fates and late answers, told and waiting. An open place that
-- nobody waits for was timed out, and so was the place of each late answer. Each place that was sent is open, or was
-- replied, or has a late answer, and no other place is or has. So the place of a late answer is open no more, and no
-- place has two.
pub record AreOfTimedOut (before : HandedOut) (hub : Hub) : Type 0 where
  pub waited : AllByRecursion (IsWaitedOrTimedOut hub.rounds (hands_out before hub).fates) hub.open_places
  pub timed_out : AllByRecursion (IsOfTimedOut hub.rounds (hands_out before hub).fates) (hands_out before hub).lates
  pub each_place : (place : ℕ) → standings (hands_out before hub) (places hub.open_places) place
      ≡ (if is_sent_place (length hub.sent) place then 1 else 0)
  pub settled : AllByRecursion (IsClosedPlace (length hub.sent) (places hub.open_places))
      (late_places (hands_out before hub).lates)
  pub once : (place : ℕ) → times place (late_places (hands_out before hub).lates) ≤ 1
