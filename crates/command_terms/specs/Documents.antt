-- Documents that a command refuses. Profile.
use Rattle.std.specs.Prelude.{◌≡◌, ℕ, List, Option}
use Rattle.access_policy.specs.declared.policy.Rule.{Rule}
use Rattle.script_lang.specs.declared.session.Session.{Session}
use Rattle.session_input.specs.declared.refusal.Refusal.{Refusal}
use Rattle.session_input.specs.declared.refusal.Refusal.TheVariants.{TooLong}
use Rattle.session_input.specs.Deserved.{Deserves}
use Rattle.session_input.specs.Lines.{refusal_line}

-- the bytes deserve a refusal by these rules on a session and its policy, and this is its line
pub record IsRefusedDocument (Breaks : Session → Option (List Rule) → Refusal → Type 0) (bytes line : List ℕ) : Type 0
  where
    pub refusal : Refusal
    pub deserved : Deserves Breaks bytes refusal
    pub spelled : line ≡ refusal_line refusal

-- the line of a document that is too long
abbrev pub long_document_line : List ℕ
long_document_line = refusal_line TooLong
