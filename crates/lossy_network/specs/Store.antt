-- How the code keeps datagrams: one after another in one store of bytes.
use Rattle.std.specs.Prelude.{ℕ, ◌≤◌, List, length, map, slice_range, Option, Some, None}
use Rattle.std.specs.List.{AllByRecursion}
use Rattle.world_model.specs.declared.datagram.Datagram.{Datagram}
use Rattle.lossy_network.specs.declared.datagrams.DatagramRef.{DatagramRef}
use Rattle.lossy_network.specs.declared.datagrams.Entry.{Entry}
use Rattle.lossy_network.specs.declared.datagrams.Datagrams.TheInside.{Inside}

-- the datagram of an entry
abbrev pub datagram_in : List ℕ → Entry → Datagram
datagram_in bytes entry = record {
  direction = entry.direction;
  bytes = slice_range bytes entry.start entry.end;
  birth = entry.birth;
}

abbrev pub stored_bytes : List ℕ → List Entry → List Datagram
stored_bytes bytes entries = map (datagram_in bytes) entries

-- all within a store of so many bytes
abbrev pub AreWithin : ℕ → List Entry → Type 0
AreWithin count entries = AllByRecursion (λ entry. (entry.start ≤ entry.end) × (entry.end ≤ count)) entries

abbrev pub datagrams_of : Inside → List Datagram
datagrams_of d = stored_bytes d.bytes.items d.entries.items

abbrev pub IsStored : Inside → Type 0
IsStored d = AreWithin (length d.bytes.items) d.entries.items

-- the datagram whose bytes are lent
abbrev pub datagram_of : DatagramRef → Datagram
datagram_of d = record { direction = d.direction; bytes = d.bytes.now; birth = d.birth }

abbrev pub lent_datagram : Option DatagramRef → Option Datagram
lent_datagram None = None
lent_datagram (Some d) = Some (datagram_of d)
