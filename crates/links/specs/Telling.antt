-- What a link tells of the datagrams that it carries, and what its calls may do to it. Profile.
use Rattle.std.specs.Prelude.{◌≡◌, ◌⊎◌, ℕ, ◌<◌, ◌≤◌, List, [], ◌∷◌, ◌++◌, length, Option, Some, None, Result, Ok, Err}
use Rattle.std.specs.List.{Contains}
use Rattle.ipb_base.specs.Faults.{Rose, one_more}
use Rattle.world_model.specs.Links.{Told, IsHandedAt, IsHeard, sent_on}
use Rattle.links.specs.declared.link.LinkFault.{LinkFault}
use Rattle.links.specs.declared.link.LinkFault.TheVariants.{Failed, NoMemory}
use Rattle.links.specs.declared.link.Received.{Received}
use Rattle.links.specs.declared.link.Received.TheVariants.{Got, Quiet}
use Rattle.links.specs.declared.link.TheConstants.{MAX_DATAGRAM}

-- What a link tells: its board, and the air, which is a list of each datagram from the first on. By their places in it:
-- what has to be heard before a receive can be quiet, and what receives have handed out so far.
pub record Telling : Type 0 where
  pub told : Told
  pub due : List ℕ
  pub handed : List ℕ

-- A link tells before a call and after it, and then this holds of what it tells; or it tells neither before nor after.
abbrev pub IfTelling : Option Telling → Option Telling → (Telling → Telling → Type 0) → Type 0
IfTelling None None holds = Unit {0}
IfTelling None (Some new) holds = ⊥
IfTelling (Some old) None holds = ⊥
IfTelling (Some old) (Some new) holds = holds old new

-- The air grows by one datagram for the board, of these bytes. It has to be heard, or the link held one back; and what
-- had to be heard before still has, or the link held one back. `before` and `now` count what was held back.
pub record IsSent (bytes : List ℕ) (before now : ℕ) (old new : Telling) : Type 0 where
  pub told : new.told ≡ sent_on old.told bytes
  pub joins : Contains new.due (length old.told.air) ⊎ Rose before now
  pub stays : (place : ℕ) → Contains old.due place → Contains new.due place ⊎ Rose before now
  pub handed : new.handed ≡ old.handed

-- the datagram at this place is still to be heard, or the board or the hub heard it in this call, or datagrams are held
abbrev pub IsSettled : List ℕ → List ℕ → ℕ → ℕ → Telling → ℕ → Type 0
IsSettled by_board by_hub before now new place =
    Contains new.due place ⊎ Contains by_board place ⊎ Contains by_hub place ⊎ Rose before now

-- The board heard datagrams of the air, one after another, each alive, and its answers joined the air; these were
-- handed out. What was still to be heard, and each answer, is settled so.
pub record IsReceived (by_hub : List ℕ) (before now : ℕ) (old new : Telling) : Type 0 where
  pub by_board : IsHeard old.told new.told
  pub handed : new.handed ≡ old.handed ++ by_hub
  pub stays : (place : ℕ) → Contains old.due place → IsSettled by_board.places by_hub before now new place
  pub joins : (place : ℕ) → length old.told.air ≤ place → place < length new.told.air
      → IsSettled by_board.places by_hub before now new place

-- one datagram was handed out: it is of the air, for the hub and alive
pub record IsGot (bytes : List ℕ) (before now : ℕ) (old new : Telling) : Type 0 where
  pub place : ℕ
  pub there : IsHandedAt new.told bytes place
  pub received : IsReceived (place ∷ []) before now old new

-- nothing was handed out, and nothing is still to be heard
pub record IsQuiet (before now : ℕ) (old new : Telling) : Type 0 where
  pub received : IsReceived [] before now old new
  pub none_due : new.due ≡ []

-- What a receive does to what a link tells. A failed one does nothing; where memory ran out the board may have heard
-- some datagrams, each whole.
abbrev pub Receives : Result Received LinkFault → List ℕ → ℕ → ℕ → Telling → Telling → Type 0
Receives (Ok Got) bytes before now old new = IsGot bytes before now old new
Receives (Ok Quiet) bytes before now old new = IsQuiet before now old new
Receives (Err Failed) bytes before now old new = new ≡ old
Receives (Err NoMemory) bytes before now old new = IsReceived [] before now old new

-- what a receive leaves in its buffer: the datagram alone, which is not longer than a datagram may be, or nothing
abbrev pub IsCarried : Result Received LinkFault → List ℕ → Type 0
IsCarried (Ok Got) bytes = length bytes ≤ MAX_DATAGRAM
IsCarried (Ok Quiet) bytes = bytes ≡ []
IsCarried (Err fault) bytes = bytes ≡ []

-- how many receives were quiet, and how many got a datagram, after one more
abbrev pub quiets_after : Result Received LinkFault → ℕ → ℕ
quiets_after (Ok Got) count = count
quiets_after (Ok Quiet) count = one_more count
quiets_after (Err fault) count = count

abbrev pub gots_after : Result Received LinkFault → ℕ → ℕ
gots_after (Ok Got) count = one_more count
gots_after (Ok Quiet) count = count
gots_after (Err fault) count = count

-- but for this one place, what was still to be heard is so
abbrev pub KeepsBut : ℕ → List ℕ → List ℕ → Type 0
KeepsBut place old new = (other : ℕ) → Contains old other → (place ≡ other) ⊎ Contains new other
