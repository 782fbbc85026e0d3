-- What a lane keeps of late answers, over any link. Profile.
use Rattle.std.specs.Prelude.{◌≡◌, ℕ, ◌≤◌, List, length, Option, Some}
use Rattle.packet_codec.specs.declared.packet.TheConstants.{MAX_BODY_WORDS}
use Rattle.world_model.specs.Hub.{HandedOut, Hub}
use Rattle.world_model.specs.LateAnswers.{AreOfTimedOut}
use Rattle.lane_record.specs.declared.outcome.Outcome.{Outcome}
pub use Rattle.lane_record.specs.Lates.{WasTimedOut}
use Rattle.lane_record.specs.Lates.{AreLatesBy, late_in}
use Rattle.lane_record.specs.Offers.{AreOutcomes}

-- All that the hub has handed out stands there: each fate is what became of its Ask, and what came late at each place
-- is its late answer. The hub's own account of what was timed out holds of it.
pub record HasHandedOut (hub : Hub) (outcomes : List (Option Outcome)) (lates : List (Option (List ℕ))) : Type 0 where
  pub out : HandedOut
  pub account : AreOfTimedOut out hub
  pub told : AreOutcomes out.fates outcomes
  pub late : AreLatesBy out.lates lates

-- There is room for a late answer at the place of each Ask. What came late at a place is of a body that was timed out
-- there, and fits a packet; and it is what the hub handed out.
pub record AreLateAnswers (hub : Hub) (outcomes : List (Option Outcome)) (lates : List (Option (List ℕ))) : Type 0
  where
    pub count : length lates ≡ length outcomes
    pub timed_out : (place : ℕ) (words : List ℕ) → late_in lates place ≡ Some words → WasTimedOut outcomes place
    pub short : (place : ℕ) (words : List ℕ) → late_in lates place ≡ Some words → length words ≤ MAX_BODY_WORDS
    pub handed_out : HasHandedOut hub outcomes lates
