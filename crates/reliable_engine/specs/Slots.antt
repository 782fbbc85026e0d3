-- The slots of places, and the open places that stand in them. No public contract speaks of it.
use Rattle.std.specs.Prelude.{◌≡◌, ◌≢◌, ℕ, zero, suc, ◌+◌, ◌≤◌, ◌%◌, ◌^◌, List, [], ◌∷◌, Option, Some, None, get_or}
use Rattle.world_model.specs.declared.offered.OpenPlace.{OpenPlace}
use Rattle.world_model.specs.Hub.{least, places}
use Rattle.world_model.specs.Facts.{AreRising}
use Rattle.reliable_engine.specs.declared.slots.Flags.{Flags}
use Rattle.reliable_engine.specs.declared.slots.TheConstants.{SLOTS}

-- the open place that a slot with these flags stands for
abbrev pub place_with_flags : ℕ → Option Flags → Option OpenPlace
place_with_flags place None = None
place_with_flags place (Some flags) =
    Some (record { place = place; waited = flags.waited; resend = flags.resend; control = flags.control })

-- the open place in the slot of a place
abbrev pub open_at : List (Option Flags) → ℕ → Option OpenPlace
open_at slots place = place_with_flags place (get_or slots (place % SLOTS) None)

-- an open place, if there is one, before others
abbrev pub put_before : Option OpenPlace → List OpenPlace → List OpenPlace
put_before None os = os
put_before (Some o) os = o ∷ os

-- the open places among so many from a place on, by rising place
unfoldable pub open_from : List (Option Flags) → ℕ → ℕ → List OpenPlace
open_from slots place zero = []
open_from slots place (suc count) = put_before (open_at slots place) (open_from slots (place + 1) count)

-- an open place that was changed, if there is one
abbrev pub with_changed_place : (OpenPlace → OpenPlace) → Option OpenPlace → Option OpenPlace
with_changed_place change None = None
with_changed_place change (Some o) = Some (change o)

-- this stands at a place now, and in the other slots stands what stood there
pub record IsPut (place : ℕ) (now : Option OpenPlace) (old new : List (Option Flags)) : Type 0 where
  pub here : open_at new place ≡ now
  pub others : (other : ℕ) → other % SLOTS ≢ place % SLOTS → open_at new other ≡ open_at old other

-- they rise, from 1 on and up to a last one
abbrev pub AreUpTo : ℕ → List OpenPlace → Type 0
AreUpTo last os = AreRising 1 (last + 1) (places os)

-- the open places are from `low` on and below `end`, and their slots are apart
pub record EndsAt (low end : ℕ) (os : List OpenPlace) : Type 0 where
  pub rising : AreRising low end (places os)
  pub near : end ≤ low + SLOTS

-- `low` is the lowest open place, or `end` where none is open; and each open place has an identifier
pub record IsSlotted (low end : ℕ) (os : List OpenPlace) : Type 0 where
  pub from_one : 1 ≤ low
  pub up_to_end : end ≤ 2 ^ 62 + 1
  pub lowest : least (places os) end ≡ low
  pub ends : EndsAt low end os
