-- What the bytes of an input are to `describe` and to `undescribe`: a text of a capture, or the first rule that they
-- break. What the text and the description of a capture are says `capture_reader`. Profile.
use Rattle.std.specs.Prelude.{◌≡◌, ℕ, ◌<◌, ◌≤◌, List, length}
use Rattle.capture_reader.specs.declared.capture.Capture.{Capture}
use Rattle.capture_reader.specs.CaptureText.{IsCapture, capture_text}
use Rattle.capture_reader.specs.Description.{IsDescription}
use Rattle.capture_reader.specs.Faults.{IsFirstFault}
use Rattle.command_terms.specs.Numbers.{done_status}
use Rattle.capture_commands.specs.declared.refusal.TextRefusal.{TextRefusal}
use Rattle.capture_commands.specs.declared.refusal.TextRefusal.TheVariants as refusal
use Rattle.capture_commands.specs.declared.refusal.Unread.{Unread}
use Rattle.capture_commands.specs.declared.refusal.Unread.TheVariants as unread
use Rattle.capture_commands.specs.Lines.{refusal_line}
use Rattle.capture_commands.specs.Numbers.{capture_bytes}

-- the bytes are the text of this capture
pub record IsTextOf (bytes : List ℕ) (capture : Capture) : Type 0 where
  pub fits : length bytes ≤ capture_bytes
  pub is_capture : IsCapture capture
  pub spelled : bytes ≡ capture_text capture

-- the bytes are the description of this capture
pub record IsDescriptionOf (bytes : List ℕ) (capture : Capture) : Type 0 where
  pub fits : length bytes ≤ capture_bytes
  pub is_capture : IsCapture capture
  pub described : IsDescription capture bytes

-- ---- what is made of the bytes

-- the bytes are the text of a capture, and this is its description
pub record IsDescribed (bytes : List ℕ) (status : ℕ) (text : List ℕ) : Type 0 where
  pub capture : Capture
  pub read : IsTextOf bytes capture
  pub described : IsDescription capture text
  pub told : status ≡ done_status

-- the bytes are the description of a capture, and this is its text
pub record IsUndescribed (bytes : List ℕ) (status : ℕ) (text : List ℕ) : Type 0 where
  pub capture : Capture
  pub read : IsDescriptionOf bytes capture
  pub spelled : text ≡ capture_text capture
  pub told : status ≡ done_status

-- ---- the first rule that they break

-- no capture has this description
abbrev pub IsOfNoCapture : List ℕ → Type 0
IsOfNoCapture bytes = (capture : Capture) → IsCapture capture → ¬ IsDescription capture bytes

-- the bytes are too many, or else a line of them is the first faulty one
abbrev pub DeservesAsCapture : List ℕ → TextRefusal → Type 0
DeservesAsCapture bytes refusal.LongCapture = capture_bytes < length bytes
DeservesAsCapture bytes (refusal.Capture line why) = (length bytes ≤ capture_bytes) × IsFirstFault bytes line why
DeservesAsCapture bytes refusal.LongDescription = ⊥
DeservesAsCapture bytes refusal.NotDescription = ⊥

-- the bytes are too many, or else no description
abbrev pub DeservesAsDescription : List ℕ → TextRefusal → Type 0
DeservesAsDescription bytes refusal.LongCapture = ⊥
DeservesAsDescription bytes (refusal.Capture line why) = ⊥
DeservesAsDescription bytes refusal.LongDescription = capture_bytes < length bytes
DeservesAsDescription bytes refusal.NotDescription = (length bytes ≤ capture_bytes) × IsOfNoCapture bytes

-- the bytes deserve a refusal, and this is its line
pub record IsRefused (Deserves : List ℕ → TextRefusal → Type 0) (bytes line : List ℕ) : Type 0 where
  pub refusal : TextRefusal
  pub deserved : Deserves bytes refusal
  pub spelled : line ≡ refusal_line refusal

-- a refusal is told, or memory ran out
abbrev pub Tells : (TextRefusal → Type 0) → Unread → Type 0
Tells Deserved (unread.Refused refusal) = Deserved refusal
Tells Deserved unread.NoMemory = Unit {0}
