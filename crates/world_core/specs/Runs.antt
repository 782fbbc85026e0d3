-- Runs: the moves that can be run, and the move at which a run stops.
use Rattle.std.specs.Prelude.{◌≡◌, ℕ, ◌+◌, ◌<◌, ◌≤◌, false, List, length, take, Some, Ok}
use Rattle.std.specs.List.{slice_get}
use Rattle.packet_codec.specs.declared.packet.TheConstants.{MAX_BODY_WORDS}
use Rattle.world_model.specs.declared.datagram.Direction.{Direction}
use Rattle.world_model.specs.declared.datagram.Direction.TheVariants.{ToBoard, ToHub}
use Rattle.world_model.specs.declared.moves.WorldMove.{WorldMove}
use Rattle.world_model.specs.declared.moves.WorldMove.TheVariants.{Offer, Quiet, HubHears, BoardHears}
use Rattle.world_model.specs.Hub.{is_waiting}
use Rattle.world_model.specs.Air.{LIFETIME}
use Rattle.world_model.specs.World.{World, run_moves}

-- an offered body is not longer than a packet can carry
abbrev pub IsShortMove : WorldMove → Type 0
IsShortMove (Offer tag body) = length body ≤ MAX_BODY_WORDS
IsShortMove Quiet = Unit {0}
IsShortMove (HubHears place) = Unit {0}
IsShortMove (BoardHears place) = Unit {0}

-- a datagram for this hearer is at this place in the air
pub record IsThere (hearer : Direction) (w : World) (place : ℕ) : Type 0 where
  pub bytes : List ℕ
  pub birth : ℕ
  pub there : slice_get w.air place ≡ Some (record { direction = hearer; bytes = bytes; birth = birth })

-- and it was sent more first sends ago than a datagram may be under way
pub record IsTooOldThere (hearer : Direction) (w : World) (place : ℕ) : Type 0 where
  pub datagram : IsThere hearer w place
  pub too_old : datagram.birth + LIFETIME < length w.hub.sent

-- the move names a datagram that this side cannot hear, or a quiet receive while nobody waits
abbrev pub IsNotThere : World → WorldMove → Type 0
IsNotThere w (Offer tag body) = ⊥
IsNotThere w Quiet = is_waiting w.hub ≡ false
IsNotThere w (HubHears place) = ¬ IsThere ToHub w place
IsNotThere w (BoardHears place) = ¬ IsThere ToBoard w place

-- the move names a datagram that was sent too long ago
abbrev pub IsTooOld : World → WorldMove → Type 0
IsTooOld w (Offer tag body) = ⊥
IsTooOld w Quiet = ⊥
IsTooOld w (HubHears place) = IsTooOldThere ToHub w place
IsTooOld w (BoardHears place) = IsTooOldThere ToBoard w place

-- the moves before this one are allowed and lead to a world where this one is not, for this reason
pub record StopsAt (begin : World) (moves : List WorldMove) (at : ℕ) (reason : World → WorldMove → Type 0)
    : Type 0 where
  pub before : World
  pub led : run_moves 0 begin (take at moves) ≡ Ok before
  pub move : WorldMove
  pub there : slice_get moves at ≡ Some move
  pub why : reason before move
