-- Each place that a hub sent is open, or its reply was taken: no reply that was taken is lost. Profile.
use Rattle.std.specs.Prelude.{◌≡◌, ◌⊎◌, ℕ, ◌≤◌, true, List, length, Some}
use Rattle.std.specs.List.{slice_get}
use Rattle.world_model.specs.declared.offered.Fate.{Fate}
use Rattle.world_model.specs.declared.offered.Fate.TheVariants.{Replied}
use Rattle.world_model.specs.Hub.{HandedOut, Hub, hands_out, places}
use Rattle.world_model.specs.Facts.{has}

-- one of the fates is the reply of this place
pub record HasReply (fates : List (ℕ × Fate)) (place : ℕ) : Type 0 where
  pub tag : ℕ
  pub words : List ℕ
  pub number : ℕ
  pub there : slice_get fates number ≡ Some (tag, Replied place words)

-- one of the late answers is that of this place
pub record HasLateAnswer (lates : List (ℕ × List ℕ)) (place : ℕ) : Type 0 where
  pub words : List ℕ
  pub number : ℕ
  pub there : slice_get lates number ≡ Some (place, words)

-- Of a hub, after so much was handed out, and of all its fates and late answers, told and waiting: each place that was
-- sent is open, or was replied, or has a late answer.
pub record AreAllAnswered (before : HandedOut) (hub : Hub) : Type 0 where
  pub each : (place : ℕ) → 1 ≤ place → place ≤ length hub.sent
      → (has place (places hub.open_places) ≡ true) ⊎ HasReply (hands_out before hub).fates place
      ⊎ HasLateAnswer (hands_out before hub).lates place
