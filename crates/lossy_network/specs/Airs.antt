-- How the code keeps an air, and what its calls answer.
use Rattle.std.specs.Prelude.{◌≡◌, ℕ, Bool, true, false, if◌then◌else◌, List, [], ◌∷◌, ◌++◌, Option, Some}
use Rattle.std.specs.Prelude.{None}
use Rattle.std.specs.List.{slice_get}
use Rattle.board_node.specs.Answers.{answer_bytes}
use Rattle.world_model.specs.Board.{Board, hear}
use Rattle.world_model.specs.declared.datagram.Datagram.{Datagram}
use Rattle.world_model.specs.declared.datagram.Direction.{Direction}
use Rattle.world_model.specs.declared.datagram.Direction.TheVariants.{ToHub}
use Rattle.world_model.specs.Air.{goes_to, is_alive}
use Rattle.world_model.specs.Links.{Told, first_sends}
use Rattle.lossy_network.specs.declared.air.Air.TheInside.{Inside}

abbrev pub told_of : Inside → Told
told_of a = record { board = a.board; air = a.datagrams }

-- the code counts the first sends
pub record IsCounted (a : Inside) : Type 0 where
  pub first : a.first ≡ a.board.first
  pub sent : a.sent ≡ first_sends (told_of a)

-- a datagram was heard, and this came of it; or it could not be heard, and nothing changed
abbrev pub IsHeardBy : Bool → Option Told → Told → Told → Type 0
IsHeardBy true heard old new = heard ≡ Some new
IsHeardBy false heard old new = (heard ≡ None) × (new ≡ old)

-- the datagram of an answer, and none where there is no answer
abbrev pub answers_of : ℕ → List ℕ → List Datagram
answers_of birth [] = []
answers_of birth (byte ∷ bytes) = record { direction = ToHub; bytes = byte ∷ bytes; birth = birth } ∷ []

-- a datagram that this hearer may hear where there are so many first sends
abbrev pub may_hear : Direction → ℕ → Option Datagram → Bool
may_hear hearer sent None = false
may_hear hearer sent (Some datagram) =
    if goes_to hearer datagram.direction then is_alive sent datagram else false

-- the board heard the datagram at a place, and its answer stands at the end
pub record IsHeardAt (birth place : ℕ) (old : Board) (old_air : List Datagram) (new : Board) (new_air : List Datagram)
    : Type 0 where
  pub datagram : Datagram
  pub there : slice_get old_air place ≡ Some datagram
  pub board : new ≡ (hear old datagram.bytes).board
  pub answer : new_air ≡ old_air ++ answers_of birth (answer_bytes (hear old datagram.bytes).answer)
