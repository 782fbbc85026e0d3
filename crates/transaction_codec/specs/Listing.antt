-- Lists of requests or replies, one after the other, and their first fault. Profile.
use Rattle.std.specs.Prelude.{◌≡◌, ◌⊎◌, ℕ, ◌≤◌, ◌<◌, List, [], ◌∷◌, length, take, drop, Result, MatchResult}
use Rattle.std.specs.List.{AllByRecursion, flat_map}
use Rattle.ipb_base.specs.Lists.{IsPrefix}
use Rattle.transaction_codec.specs.declared.refusal.Why.{Why}
use Rattle.transaction_codec.specs.declared.refusal.Why.TheVariants.{Version, Kind, Code, Count, Short}
use Rattle.transaction_codec.specs.declared.refusal.BadWords.{BadWords}
use Rattle.transaction_codec.specs.declared.refusal.BadWords.TheVariants.{At, NoMemory}
use Rattle.transaction_codec.specs.Request.{request_words, IsRequest, BreaksRequest}
use Rattle.transaction_codec.specs.Reply.{reply_words, IsReply, BreaksReply}

-- the rules in their order
abbrev pub why_number : Why → ℕ
why_number Version = 1
why_number Kind = 2
why_number Code = 3
why_number Count = 4
why_number Short = 5

-- the header at the front of the words breaks this rule, and none before it
abbrev pub IsFirstRule : (Why → ℕ → List ℕ → Type 0) → List ℕ → Why → Type 0
IsFirstRule Breaks [] why = ⊥
IsFirstRule Breaks (word ∷ after) why =
    Breaks why word after × ((earlier : Why) → why_number earlier < why_number why → Breaks earlier word after → ⊥)

-- The first fault of the words: what stands before its place is a list, no longer prefix of the words is one, and the
-- header at its place breaks this rule first.
pub record IsFirstFault {Item : Type 0} (item_words : Item → List ℕ) (IsItem : Item → Type 0) (Breaks : Why → ℕ
    → List ℕ → Type 0)
    (words : List ℕ) (place : ℕ) (why : Why) : Type 0 where
  pub before : List Item
  pub ranges : AllByRecursion IsItem before
  pub front : take place words ≡ flat_map item_words before
  pub longest : (items : List Item) → AllByRecursion IsItem items → IsPrefix (flat_map item_words items) words
      → length (flat_map item_words items) ≤ place
  pub rule : IsFirstRule Breaks (drop place words) why

-- a refusal names the first fault, unless memory ran out
abbrev pub IsRequestFault : List ℕ → BadWords → Type 0
IsRequestFault words (At place why) = IsFirstFault request_words IsRequest BreaksRequest words place why
IsRequestFault words NoMemory = Unit {0}

abbrev pub IsReplyFault : List ℕ → BadWords → Type 0
IsReplyFault words (At place why) = IsFirstFault reply_words IsReply BreaksReply words place why
IsReplyFault words NoMemory = Unit {0}

-- this refusal was answered, or memory ran out
abbrev pub IsFaultOr : {T : Type 0} → Result T BadWords → BadWords → Type 0
IsFaultOr result fault = MatchResult result (λ items. ⊥) (λ bad. (bad ≡ fault) ⊎ (bad ≡ NoMemory))
