-- What holds of every run, however the moves lose, repeat, reorder and delay: the theorem and what follows from it.
use Rattle.std.specs.Prelude.{◌≡◌, ℕ, ◌+◌, ◌⊎◌, ◌<◌, ◌≤◌, ◌==◌, if◌then◌else◌, List}
use Rattle.std.specs.Prelude.{[], ◌∷◌, length, map, Some, Ok}
use Rattle.std.specs.List.{AllByRecursion, slice_get}
use Rattle.ipb_base.specs.Lists.{IsPrefix}
use Rattle.board_bus.specs.Bodies.{replay}
use Rattle.world_model.specs.declared.datagram.Datagram.{Datagram}
use Rattle.world_model.specs.declared.datagram.Direction.TheVariants.{ToHub}
use Rattle.world_model.specs.declared.offered.Offered.{Offered}
use Rattle.world_model.specs.declared.offered.OpenPlace.{OpenPlace}
use Rattle.world_model.specs.declared.offered.Fate.{Fate}
use Rattle.world_model.specs.declared.offered.Fate.TheVariants.{Replied, TimedOut, Unsent}
use Rattle.world_model.specs.declared.moves.WorldMove.{WorldMove}
use Rattle.world_model.specs.declared.moves.WorldMove.TheVariants.{Offer, Quiet, HubHears, BoardHears}
use Rattle.world_model.specs.Places.{at_place}
use Rattle.world_model.specs.Board.{Board, bodies_executed}
use Rattle.world_model.specs.Hub.{tag_of}
use Rattle.world_model.specs.Air.{LIFETIME}
use Rattle.world_model.specs.World.{World, run_moves, start}
use Rattle.world_model.specs.Facts.{IsSendable, IsStart, bodies_of}

-- an offered body has a spelling as a control packet
abbrev pub IsMove : WorldMove → Type 0
IsMove (Offer tag body) = IsSendable body
IsMove Quiet = Unit {0}
IsMove (HubHears i) = Unit {0}
IsMove (BoardHears i) = Unit {0}

-- these moves lead from one world to another
pub record Leads (moves : List WorldMove) (old new : World) : Type 0 where
  pub sendable : AllByRecursion IsMove moves
  pub at : ℕ
  pub ran : run_moves at old moves ≡ Ok new

-- these moves lead there from where a run begins
pub record IsRun (window rounds : ℕ) (board : Board) (air : List Datagram) (moves : List WorldMove)
    (w : World) : Type 0 where
  pub begins : IsStart window board air
  pub leads : Leads moves (start window rounds board air) w

-- a fate that was handed out
pub record IsHandedOut (w : World) (tag : ℕ) (fate : Fate) : Type 0 where
  pub number : ℕ
  pub there : slice_get w.fates number ≡ Some (tag, fate)

-- a late answer that was handed out, with its place
pub record IsLateAnswer (w : World) (place : ℕ) (words : List ℕ) : Type 0 where
  pub number : ℕ
  pub there : slice_get w.lates number ≡ Some (place, words)

-- bytes that the hub may still hear
pub record IsAliveInAir (w : World) (bytes : List ℕ) : Type 0 where
  pub number : ℕ
  pub birth : ℕ
  pub there : slice_get w.air number ≡ Some (record { direction = ToHub; bytes = bytes; birth = birth })
  pub alive : length w.hub.sent ≤ birth + LIFETIME

-- The theorem. The executed bodies are the front of the bodies that were sent first, in order; and each place whose
-- fate is Replied, and each place with a late answer, has the reply that a bus with a single thread gives there, when
-- the executed bodies are replayed by place over the bus that the board opened with.
pub record IsTrueHistory (w : World) : Type 0 where
  pub in_order : IsPrefix (bodies_executed w.board) (bodies_of w.hub.sent)
  pub replied : (tag place : ℕ) (words : List ℕ) → IsHandedOut w tag (Replied place words)
      → at_place (replay w.board.opening (bodies_executed w.board)).replies place ≡ Some words
  pub late : (place : ℕ) (words : List ℕ) → IsLateAnswer w place words
      → at_place (replay w.board.opening (bodies_executed w.board)).replies place ≡ Some words

-- the body of this tag was sent at this place and executed there
pub record IsExecutedThere (w : World) (tag place : ℕ) : Type 0 where
  pub body : Offered
  pub sent : at_place w.hub.sent place ≡ Some body
  pub tag_is : body.tag ≡ tag
  pub there : at_place (bodies_executed w.board) place ≡ Some body.body

-- the body of this tag was sent at this place, and was executed there or nowhere
pub record IsExecutedAtMostOnce (w : World) (tag place : ℕ) : Type 0 where
  pub body : Offered
  pub sent : at_place w.hub.sent place ≡ Some body
  pub tag_is : body.tag ≡ tag
  pub there : (length (bodies_executed w.board) < place) ⊎ (at_place (bodies_executed w.board) place ≡ Some body.body)

-- a body was timed out at this place, and was executed there all the same
pub record IsAnsweredLate (w : World) (place : ℕ) : Type 0 where
  pub tag : ℕ
  pub rounds : ℕ
  pub timed_out : IsHandedOut w tag (TimedOut place rounds)
  pub there : IsExecutedThere w tag place

-- ---- the fates of offered bodies

abbrev pub offers : List WorldMove → List ℕ
offers [] = []
offers (Offer tag body ∷ moves) = tag ∷ offers moves
offers (Quiet ∷ moves) = offers moves
offers (HubHears i ∷ moves) = offers moves
offers (BoardHears i ∷ moves) = offers moves

-- a body that one of the moves offered, under its tag
pub record IsOffered (moves : List WorldMove) (offered : Offered) : Type 0 where
  pub number : ℕ
  pub move : slice_get moves number ≡ Some (Offer offered.tag offered.body)

-- how often a number stands in a list
abbrev pub times : ℕ → List ℕ → ℕ
times n [] = 0
times n (x ∷ xs) = (if x == n then 1 else 0) + times n xs

abbrev pub tag_of_offered : Offered → ℕ
tag_of_offered offered = offered.tag

abbrev pub tag_of_fate : ℕ × Fate → ℕ
tag_of_fate fate = fate.0

-- the tags of the bodies that are waited for at open places
abbrev pub waited_tags : List Offered → List OpenPlace → List ℕ
waited_tags sent [] = []
waited_tags sent (o ∷ os) =
    if o.waited then tag_of (at_place sent o.place) ∷ waited_tags sent os else waited_tags sent os

-- the tags of fates with a place
abbrev pub placed_tags : List (ℕ × Fate) → List ℕ
placed_tags [] = []
placed_tags ((tag, Replied place words) ∷ fates) = tag ∷ placed_tags fates
placed_tags ((tag, TimedOut place rounds) ∷ fates) = tag ∷ placed_tags fates
placed_tags ((tag, Unsent) ∷ fates) = placed_tags fates

-- Every offered body stands once among the fates, the bodies that are waited for and those that are queued; and every
-- body that was sent stands once among the fates with a place and the bodies that are waited for.
pub record IsAccounted (moves : List WorldMove) (w : World) (tag : ℕ) : Type 0 where
  pub offered : times tag (offers moves) ≡
      times tag (map tag_of_fate w.fates) + times tag (waited_tags w.hub.sent w.hub.open_places)
      + times tag (map tag_of_offered w.hub.queue)
  pub sent : times tag (map tag_of_offered w.hub.sent) ≡
      times tag (placed_tags w.fates) + times tag (waited_tags w.hub.sent w.hub.open_places)

-- ---- patience

abbrev pub quiets : List WorldMove → ℕ
quiets [] = 0
quiets (Offer tag body ∷ moves) = quiets moves
quiets (Quiet ∷ moves) = 1 + quiets moves
quiets (HubHears i ∷ moves) = quiets moves
quiets (BoardHears i ∷ moves) = quiets moves

abbrev pub timeouts : List (ℕ × Fate) → ℕ
timeouts [] = 0
timeouts ((tag, Replied place words) ∷ fates) = timeouts fates
timeouts ((tag, TimedOut place rounds) ∷ fates) = 1 + timeouts fates
timeouts ((tag, Unsent) ∷ fates) = timeouts fates
