-- Words that are no reply to a body, and the word at which they stop being one. Profile.
use Rattle.std.specs.Prelude.{ℕ, ◌≤◌, List, length, take}
use Rattle.ipb_base.specs.Lists.{IsPrefix}
use Rattle.transaction_codec.specs.Answer.{IsReplyTo}

-- some reply to the body begins with these words
abbrev pub BeginsReply : List ℕ → List ℕ → Type 0
BeginsReply body front = (whole : List ℕ) × IsReplyTo body whole × IsPrefix front whole

-- The words are no reply to the body, and `place` is the length of their longest prefix with which some reply to it
-- begins: so the place of the first word at fault, or their length where they end too early.
pub record IsGarbledAt (body reply : List ℕ) (place : ℕ) : Type 0 where
  pub is_none : IsReplyTo body reply → ⊥
  pub within : place ≤ length reply
  pub begins : BeginsReply body (take place reply)
  pub longest : (front : List ℕ) → IsPrefix front reply → BeginsReply body front → length front ≤ place
