-- What became of the bodies of a run, and what came late in it, as a lane shows them. Profile.
use Rattle.std.specs.Prelude.{◌≡◌, ℕ, List, Option, Some, None}
use Rattle.std.specs.List.{slice_get}
use Rattle.world_model.specs.declared.offered.Offered.{Offered}
use Rattle.world_model.specs.declared.offered.Fate.{Fate}
use Rattle.world_model.specs.declared.offered.Fate.TheVariants as fate
use Rattle.world_model.specs.Facts.{IsTagged}
use Rattle.world_model.specs.Hub.{Hub}
use Rattle.reliable_engine.specs.Events.{IsAmong}
use Rattle.reliable_engine.specs.MachineRuns.{HasLate}
use Rattle.lane_record.specs.declared.outcome.Outcome.{Outcome}
use Rattle.lane_record.specs.declared.outcome.Outcome.TheVariants.{Replied, TimedOut, Unsent, LinkLost}
use Rattle.lane_record.specs.Lates.{late_in}
use Rattle.lane_record.specs.Offers.{outcome_of}

-- the body under this tag was sent at this place, or at none, before the link failed
abbrev pub IsLostAt : List Offered → ℕ → Option ℕ → Type 0
IsLostAt sent tag (Some place) = IsTagged sent tag place
IsLostAt sent tag None = (place : ℕ) → ¬ IsTagged sent tag place

-- what became of the Ask under this tag, at the end of a run
abbrev pub IsFateAt : Hub → ℕ → Outcome → Type 0
IsFateAt end tag (Replied place words) = IsAmong (tag, fate.Replied place words) end.fates
IsFateAt end tag (TimedOut place rounds) = IsAmong (tag, fate.TimedOut place rounds) end.fates
IsFateAt end tag Unsent = IsAmong (tag, fate.Unsent) end.fates
IsFateAt end tag (LinkLost place) = IsLostAt end.sent tag place

-- Each fate of the run is what became of the Ask of its tag. What became of an Ask is a fate of the run, or it was lost
-- with the link, sent or not.
pub record AreFatesAt (end : Hub) (outcomes : List (Option Outcome)) : Type 0 where
  pub each_fate : (tag : ℕ) (fate : Fate) → IsAmong (tag, fate) end.fates
      → slice_get outcomes tag ≡ Some (Some (outcome_of fate))
  pub each_outcome : (tag : ℕ) (outcome : Outcome) → slice_get outcomes tag ≡ Some (Some outcome)
      → IsFateAt end tag outcome

-- What came late at each place is what is among the late answers of the run.
pub record AreLatesAt (end : Hub) (lates : List (Option (List ℕ))) : Type 0 where
  pub came : (place : ℕ) (words : List ℕ) → late_in lates place ≡ Some words → HasLate place words end.lates
  pub kept : (place : ℕ) (words : List ℕ) → HasLate place words end.lates → late_in lates place ≡ Some words
