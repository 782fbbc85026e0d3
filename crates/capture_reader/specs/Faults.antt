-- The first faulty line of a text that is no capture, and the first rule that it breaks. Profile.
use Rattle.std.specs.Prelude.{◌≡◌, ◌≢◌, ◌⊎◌, ℕ, ◌+◌, ◌<◌, List, [], ◌++◌, length, Result, MatchResult}
use Rattle.packet_ids.specs.Identifier.{IsIdentifier}
use Rattle.packet_codec.specs.Packet.{AreBytes}
use Rattle.capture_reader.specs.declared.capture.TheConstants.{MAX_DATAGRAM}
use Rattle.capture_reader.specs.declared.capture.Caught.{Caught}
use Rattle.capture_reader.specs.declared.capture.Capture.{Capture}
use Rattle.capture_reader.specs.declared.refusal.CaptureWhy.{CaptureWhy}
use Rattle.capture_reader.specs.declared.refusal.CaptureWhy.TheVariants.{First, Form, Long}
use Rattle.capture_reader.specs.declared.refusal.CaptureRefusal.{CaptureRefusal}
use Rattle.capture_reader.specs.declared.refusal.CaptureRefusal.TheVariants.{At, NoMemory}
use Rattle.capture_reader.specs.CaptureText.{item_text, first_text, capture_text, IsCapture}

-- the text does not begin with the line of an identifier
abbrev pub NoFirstLine : List ℕ → Type 0
NoFirstLine text = (first : ℕ) (rest : List ℕ) → IsIdentifier first → text ≢ first_text first ++ rest

-- there is a line, and it is not that of a datagram of any length
pub record NoItemLine (text : List ℕ) : Type 0 where
  pub some : text ≢ []
  pub none : (item : Caught) (rest : List ℕ) → AreBytes item.bytes → text ≢ item_text item ++ rest

-- the text begins with the line of a datagram that is too long
pub record HasLongLine (text : List ℕ) : Type 0 where
  pub item : Caught
  pub rest : List ℕ
  pub bytes : AreBytes item.bytes
  pub long : MAX_DATAGRAM < length item.bytes
  pub begins : text ≡ item_text item ++ rest

-- the rule that the line at the front of the text breaks, where it is not line 1
abbrev pub BreaksItemLine : CaptureWhy → List ℕ → Type 0
BreaksItemLine First text = ⊥
BreaksItemLine Form text = NoItemLine text
BreaksItemLine Long text = HasLongLine text

-- the lines before this one are those of a capture, and this one breaks this rule
pub record IsLaterFault (text : List ℕ) (line : ℕ) (why : CaptureWhy) : Type 0 where
  pub before : Capture
  pub rest : List ℕ
  pub ranges : IsCapture before
  pub parts : text ≡ capture_text before ++ rest
  pub counted : line ≡ length before.items + 2
  pub rule : BreaksItemLine why rest

-- the first faulty line, counted from 1, and its rule
abbrev pub IsFirstFault : List ℕ → ℕ → CaptureWhy → Type 0
IsFirstFault text line why = ((line ≡ 1) × (why ≡ First) × NoFirstLine text) ⊎ IsLaterFault text line why

-- a refusal names the first fault, unless memory ran out
abbrev pub IsCaptureFault : List ℕ → CaptureRefusal → Type 0
IsCaptureFault text (At line why) = IsFirstFault text line why
IsCaptureFault text NoMemory = Unit {0}

-- this refusal was answered, or memory ran out
abbrev pub IsRefusedBy : {T : Type 0} → Result T CaptureRefusal → CaptureRefusal → Type 0
IsRefusedBy result fault = MatchResult result (λ read. ⊥) (λ refusal. (refusal ≡ fault) ⊎ (refusal ≡ NoMemory))
