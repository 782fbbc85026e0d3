-- What the bytes of an input are to `audit`: a session and a transcript, or the first rule that they break. Profile.
use Rattle.std.specs.Prelude.{◌≡◌, ◌⊎◌, ℕ, ◌≤◌, ◌<◌, List, ◌∷◌, ◌++◌, length, Some}
use Rattle.ipb_base.specs.Digits.{digits_number}
use Rattle.script_steps.specs.declared.operation.Step.{Step}
use Rattle.script_lang.specs.declared.session.Session.{Session}
use Rattle.session_input.specs.declared.refusal.Refusal.{Refusal}
use Rattle.session_input.specs.declared.refusal.Refusal.TheVariants.{TooLong}
use Rattle.session_input.specs.Deserved as input
use Rattle.session_input.specs.Deserved.{IsRunnable}
use Rattle.session_input.specs.Numbers.{document_bytes}
use Rattle.audit_command.specs.declared.refusal.AuditRefusal.{AuditRefusal}
use Rattle.audit_command.specs.declared.refusal.AuditRefusal.TheVariants.{NoLength, OfSession}
use Rattle.audit_command.specs.declared.refusal.AuditUnread.{AuditUnread}
use Rattle.audit_command.specs.declared.refusal.AuditUnread.TheVariants as unread
use Rattle.session_input.specs.declared.refusal.Unread.{Unread}
use Rattle.session_input.specs.declared.refusal.Unread.TheVariants as session
use Rattle.audit_command.specs.Boards.{AreSimulated, BreaksInAudit}
use Rattle.audit_command.specs.Numbers.{audit_bytes, length_digits}

-- ---- the parts of an input

-- the bytes begin with a line of 1 to 8 decimal digits that tells this number, and the line feed; this follows
pub record HasLength (bytes : List ℕ) (number : ℕ) (rest : List ℕ) : Type 0 where
  pub line : List ℕ
  pub whole : bytes ≡ line ++ (10 ∷ rest)
  pub told : digits_number 10 length_digits line ≡ Some number

-- behind such a line stand a session document of so many bytes, and then a transcript
abbrev pub HasParts : List ℕ → List ℕ → List ℕ → Type 0
HasParts bytes document transcript = HasLength bytes (length document) (document ++ transcript)

-- ---- an input that is right

-- The bytes are so few, and their document stands for a session of simulated boards that can be run, by these steps
-- under its policy; this transcript stands behind it.
pub record IsInput (bytes : List ℕ) (session : Session) (steps : List (List Step)) (transcript : List ℕ) : Type 0 where
  pub fits : length bytes ≤ audit_bytes
  pub document : List ℕ
  pub parts : HasParts bytes document transcript
  pub runnable : IsRunnable document session steps
  pub simulated : AreSimulated session.boards

-- ---- the first rule that is broken

-- the first line tells a document that is longer than documents may be
pub record TellsLongDocument (bytes : List ℕ) : Type 0 where
  pub number : ℕ
  pub rest : List ℕ
  pub line : HasLength bytes number rest
  pub more : document_bytes < number

-- the bytes are too many, or their document is
abbrev pub IsTooLong : List ℕ → Type 0
IsTooLong bytes = (audit_bytes < length bytes) ⊎ TellsLongDocument bytes

-- the first line is no such line, or fewer bytes follow than it tells
abbrev pub HasNoParts : List ℕ → Type 0
HasNoParts bytes = (document transcript : List ℕ) → ¬ HasParts bytes document transcript

-- neither is too long, and the document breaks this rule first
pub record BreaksInDocument (bytes : List ℕ) (refusal : Refusal) : Type 0 where
  pub fits : ¬ IsTooLong bytes
  pub document : List ℕ
  pub transcript : List ℕ
  pub parts : HasParts bytes document transcript
  pub broken : input.Deserves BreaksInAudit document refusal

-- The bytes deserve a refusal: they are too long, or else have no parts, or else their document breaks a rule.
abbrev pub Deserves : List ℕ → AuditRefusal → Type 0
Deserves bytes NoLength = (¬ IsTooLong bytes) × HasNoParts bytes
Deserves bytes (OfSession refusal) = (IsTooLong bytes × (refusal ≡ TooLong)) ⊎ BreaksInDocument bytes refusal

-- a refusal is told, or memory ran out
abbrev pub Tells : (AuditRefusal → Type 0) → AuditUnread → Type 0
Tells Deserved (unread.Refused refusal) = Deserved refusal
Tells Deserved unread.NoMemory = Unit {0}

-- why an input gives nothing whose document gives none
abbrev pub of_session : Unread → AuditUnread
of_session (session.Refused refusal) = unread.Refused (OfSession refusal)
of_session session.NoMemory = unread.NoMemory
