-- Packet identifiers (IPbus 2.0, packet identifiers). The control packets on a link have the identifiers 1 to 0xffff in
-- turn, and 1 follows 0xffff. Identifier 0 is no number in this order: it marks a packet that is executed whenever it
-- arrives.
use Rattle.std.specs.Prelude.{◌≡◌, ℕ, ◌+◌, ◌-◌, ◌%◌, ◌<◌, ◌≤◌, ◌==◌, if◌then◌else◌}
use Rattle.packet_ids.specs.declared.places.TheConstants.{IDENTIFIERS}

-- a number that a packet in the order can have
pub record IsIdentifier (n : ℕ) : Type 0 where
  pub from_one : 1 ≤ n
  pub up_to_end : n ≤ IDENTIFIERS

-- the identifier of the packet at a place, counted from 1, where the packet at place 1 has the identifier `first`
abbrev pub identifier_at : ℕ → ℕ → ℕ
identifier_at first place = (first + place - 2) % IDENTIFIERS + 1

-- the identifier that follows another
abbrev pub following : ℕ → ℕ
following n = if n == IDENTIFIERS then 1 else n + 1

-- place is one of the `len` places from `low` on, and the packet there has this identifier
pub record IsPlaceOf (first low len id place : ℕ) : Type 0 where
  pub from_low : low ≤ place
  pub within : place < low + len
  pub identifier : identifier_at first place ≡ id

-- two places with fewer steps from one to the other, in either direction, than there are identifiers
pub record AreNear (place other : ℕ) : Type 0 where
  pub ahead : other < place + IDENTIFIERS
  pub behind : place < other + IDENTIFIERS
