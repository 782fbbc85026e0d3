-- The text of a capture: a line for the first identifier, and one for each datagram. Profile.
use Rattle.std.specs.Prelude.{ℕ, ◌+◌, ◌/◌, ◌%◌, ◌≤◌, nat_lt, if◌then◌else◌, Bool, true, false, List, [], ◌∷◌, ◌++◌}
use Rattle.std.specs.Prelude.{length, codes}
use Rattle.std.specs.List.{AllByRecursion, flat_map}
use Rattle.std.specs.Fmt.{decimal}
use Rattle.packet_ids.specs.Identifier.{IsIdentifier}
use Rattle.packet_codec.specs.Packet.{AreBytes}
use Rattle.capture_reader.specs.declared.capture.TheConstants.{MAX_DATAGRAM}
use Rattle.capture_reader.specs.declared.capture.Caught.{Caught}
use Rattle.capture_reader.specs.declared.capture.Capture.{Capture}

-- a hexadecimal digit, lower case
abbrev pub hex_digit : ℕ → ℕ
hex_digit n = if nat_lt n 10 then 48 + n else 87 + n

-- the two digits of a byte
abbrev pub byte_text : ℕ → List ℕ
byte_text byte = hex_digit (byte / 16) ∷ hex_digit (byte % 16) ∷ []

abbrev pub hex_text : List ℕ → List ℕ
hex_text bytes = flat_map byte_text bytes

-- two digits for each byte; no bytes are a hyphen
abbrev pub bytes_text : List ℕ → List ℕ
bytes_text [] = codes "-"
bytes_text (byte ∷ bytes) = hex_text (byte ∷ bytes)

-- sent by the hub, or received
abbrev pub direction_text : Bool → List ℕ
direction_text true = codes "> "
direction_text false = codes "< "

-- the line of a datagram
abbrev pub item_text : Caught → List ℕ
item_text item = direction_text item.sent ++ (bytes_text item.bytes ++ codes "\n")

abbrev pub items_text : List Caught → List ℕ
items_text items = flat_map item_text items

-- the line of the first identifier
abbrev pub first_text : ℕ → List ℕ
first_text first = codes "first " ++ (decimal first ++ codes "\n")

abbrev pub capture_text : Capture → List ℕ
capture_text capture = first_text capture.first ++ items_text capture.items

-- a datagram that a capture can have
pub record IsItem (item : Caught) : Type 0 where
  pub bytes : AreBytes item.bytes
  pub length : length item.bytes ≤ MAX_DATAGRAM

abbrev pub AreItems : List Caught → Type 0
AreItems items = AllByRecursion IsItem items

-- what has a text
pub record IsCapture (capture : Capture) : Type 0 where
  pub first : IsIdentifier capture.first
  pub items : AreItems capture.items
