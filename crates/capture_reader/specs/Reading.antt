-- How the code reads the lines of a capture. The private functions speak of it and no public clause does.
use Rattle.std.specs.Prelude.{◌≡◌, ℕ, ◌+◌, ◌-◌, ◌*◌, ◌&&◌, nat_lt, if◌then◌else◌, Bool, true, false, List}
use Rattle.std.specs.Prelude.{[], ◌∷◌, ◌++◌, length, codes, Option, Some, None}
use Rattle.ipb_base.specs.Digits.{is_between, word}
use Rattle.packet_ids.specs.declared.places.TheConstants.{IDENTIFIERS}
use Rattle.capture_reader.specs.declared.capture.Caught.{Caught}
use Rattle.capture_reader.specs.declared.refusal.CaptureWhy.{CaptureWhy}
use Rattle.capture_reader.specs.declared.refusal.CaptureRefusal.{CaptureRefusal}
use Rattle.capture_reader.specs.declared.refusal.CaptureRefusal.TheVariants.{At, NoMemory}
use Rattle.capture_reader.specs.declared.hex.FirstBytes.{FirstBytes}
use Rattle.capture_reader.specs.declared.reading.FirstItem.{FirstItem}
use Rattle.capture_reader.specs.CaptureText.{items_text, first_text, AreItems}
use Rattle.capture_reader.specs.Faults.{BreaksItemLine}
use Rattle.ipb_base.specs.Fronts.{Front, behind, all_of, ◌>>=◌}
use Rattle.capture_reader.specs.Fronts.{with_rest, with_text}

-- the value of a lower-case hexadecimal digit; 16 for every other byte
unfoldable pub digit_of : ℕ → ℕ
digit_of byte =
    if is_between 48 57 byte then byte - 48
    else if is_between 97 102 byte then byte - 87
    else 16

-- the byte of two digits
unfoldable pub pair : ℕ → ℕ → Option ℕ
pair high low =
    if nat_lt (digit_of high) 16 && nat_lt (digit_of low) 16 then Some (16 * digit_of high + digit_of low) else None

unfoldable pub pair_at : List ℕ → Front ℕ
pair_at (high ∷ low ∷ rest) = with_rest (pair high low) rest
pair_at (high ∷ []) = None
pair_at [] = None

-- at least one byte, and the end of the line
abbrev pub pairs_line : List ℕ × List ℕ → Front (List ℕ)
pairs_line ([], rest) = None
pairs_line (byte ∷ bytes, rest) = with_text (byte ∷ bytes) (behind (codes "\n") rest)

abbrev pub bytes_by : Option (List ℕ) → List ℕ → Front (List ℕ)
bytes_by (Some rest) text = Some ([], rest)
bytes_by None text = pairs_line (all_of pair_at text)

-- the bytes of a line up to its end
unfoldable pub bytes_at : List ℕ → Front (List ℕ)
bytes_at text = bytes_by (behind (codes "-\n") text) text

abbrev pub direction_by : Option (List ℕ) → List ℕ → Front Bool
direction_by (Some rest) text = Some (true, rest)
direction_by None text = with_text false (behind (codes "< ") text)

unfoldable pub direction_at : List ℕ → Front Bool
direction_at text = direction_by (behind (codes "> ") text) text

-- a datagram of any length
unfoldable pub item_at : List ℕ → Front Caught
item_at text = do
  sent ← direction_at text
  bytes ← bytes_at sent.1
  Some (record { sent = sent.0; bytes = bytes.0 }, bytes.1)

-- what the code answers, as lists
abbrev pub bytes_read : FirstBytes → List ℕ × List ℕ
bytes_read first = (first.bytes, first.rest.now)

abbrev pub item_read : FirstItem → Caught × List ℕ
item_read first = (first.item, first.rest.now)

-- the value of the decimal digit at the front
unfoldable pub digit_at : List ℕ → Front ℕ
digit_at [] = None
digit_at (byte ∷ rest) = if is_between 48 57 byte then Some (byte - 48, rest) else None

-- one digit more
abbrev pub with_digit : ℕ → ℕ → Option ℕ
with_digit value digit = word (10 * value + digit)

-- the value so far and the digits at the front, up to a byte that is none; no digits are 0
abbrev pub number_from : ℕ → List ℕ → Front ℕ
number_from value [] = Some (value, [])
number_from value (byte ∷ rest) =
    if is_between 48 57 byte
    then with_digit value (byte - 48) >>= (λ more. number_from more rest)
    else Some (value, byte ∷ rest)

abbrev pub number_at : List ℕ → Front ℕ
number_at text = number_from 0 text

-- the identifier with a number
abbrev pub id_of : ℕ → Option ℕ
id_of number = if is_between 1 IDENTIFIERS number then Some number else None

-- the identifier that the first line tells, however it writes it
unfoldable pub first_in : List ℕ → Option ℕ
first_in text = do
  rest ← behind (codes "first ") text
  read ← number_at rest
  id_of read.0

-- the first line as it is written
unfoldable pub first_at : List ℕ → Front ℕ
first_at text = do
  first ← first_in text
  with_text first (behind (first_text first) text)

-- the lines of datagrams up to the first that breaks a rule
pub record IsFaultBehind (text : List ℕ) (line : ℕ) (why : CaptureWhy) : Type 0 where
  pub before : List Caught
  pub rest : List ℕ
  pub ranges : AreItems before
  pub parts : text ≡ items_text before ++ rest
  pub counted : line ≡ length before + 2
  pub rule : BreaksItemLine why rest

abbrev pub IsItemsFault : List ℕ → CaptureRefusal → Type 0
IsItemsFault text (At line why) = IsFaultBehind text line why
IsItemsFault text NoMemory = Unit {0}

-- the line at the front breaks a rule
abbrev pub IsItemFault : ℕ → List ℕ → CaptureRefusal → Type 0
IsItemFault line text (At at why) = (at ≡ line) × BreaksItemLine why text
IsItemFault line text NoMemory = Unit {0}
