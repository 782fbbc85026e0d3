-- How the code appends descriptions. The private functions speak of it and no public clause does.
use Rattle.std.specs.Prelude.{◌≡◌, ◌⊎◌, ℕ, ◌≤◌, List, ◌++◌, Bool, true, false}
use Rattle.packet_ids.specs.Identifier.{identifier_at}
use Rattle.packet_codec.specs.declared.packet.Packet.{Packet}
use Rattle.packet_codec.specs.Packet.{IsPacket, packet_bytes}
use Rattle.capture_reader.specs.declared.capture.Caught.{Caught}
use Rattle.capture_reader.specs.Rows.{IsTextOf}
use Rattle.capture_reader.specs.Description.{AreTextsOf}

-- the text of a datagram was appended
abbrev pub Appends : Caught → List ℕ → List ℕ → Type 0
Appends item old new = (text : List ℕ) × IsTextOf item text × (new ≡ old ++ text)

-- the texts of datagrams were
abbrev pub AppendsAll : List Caught → List ℕ → List ℕ → Type 0
AppendsAll items old new = (text : List ℕ) × AreTextsOf items text × (new ≡ old ++ text)

-- The words spell a list, and the text of that list was appended; or they spell none, and something was.
abbrev pub Adds : {Item : Type 0} → (List Item → Type 0) → (List Item → List ℕ) → (List Item → List ℕ) → List ℕ
    → List ℕ → List ℕ → Bool → Type 0
Adds {Item = Item} Are spelled text words old new true =
    (items : List Item) × Are items × (words ≡ spelled items) × (new ≡ old ++ text items)
Adds {Item = Item} Are spelled text words old new false =
    ((items : List Item) → Are items → words ≡ spelled items → ⊥) × ((more : List ℕ) × (new ≡ old ++ more))

-- the datagram is this packet
pub record IsOfPacket (item : Caught) (packet : Packet) : Type 0 where
  pub range : IsPacket packet
  pub spelled : item.bytes ≡ packet_bytes packet

-- the greatest place from 1 to the last that has this identifier, or 0
pub record IsLastPlace (first last id place : ℕ) : Type 0 where
  pub greatest : (other : ℕ) → 1 ≤ other → other ≤ last → identifier_at first other ≡ id → other ≤ place
  pub found : (place ≡ 0) ⊎ ((1 ≤ place) × (place ≤ last) × (identifier_at first place ≡ id))

-- the greatest place of which something holds, or 0
pub record IsGreatest (Holds : ℕ → Type 0) (place : ℕ) : Type 0 where
  pub greatest : (other : ℕ) → Holds other → other ≤ place
  pub shown : (place ≡ 0) ⊎ Holds place
