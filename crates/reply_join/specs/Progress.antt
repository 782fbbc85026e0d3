-- What the steps of joining say of one request and the words that are left of the reply. No public clause speaks of it.
use Rattle.std.specs.Prelude.{◌≡◌, ℕ, ◌-◌, ◌<◌, ◌⊎◌, List, ◌∷◌, ◌++◌, length, replicate}
use Rattle.transaction_codec.specs.declared.request.Op.{Op}
use Rattle.transaction_codec.specs.declared.request.Request.{Request}
use Rattle.transaction_codec.specs.declared.reply.Reply.{Reply}
use Rattle.transaction_codec.specs.declared.info_code.TheConstants.{SUCCESS}
use Rattle.transaction_codec.specs.Header.{header}
use Rattle.transaction_codec.specs.Request.{op_kind, op_count}
use Rattle.transaction_codec.specs.Reply.{IsReply, reply_words, values_after}
use Rattle.transaction_codec.specs.Answer.{Fails, IsDone, IsFailed}
use Rattle.reply_join.specs.declared.answer.Answer.{Answer}
use Rattle.reply_join.specs.declared.answer.Answer.TheVariants.{Skipped}
use Rattle.reply_join.specs.declared.refusal.JoinRefusal.{JoinRefusal}
use Rattle.reply_join.specs.declared.refusal.JoinRefusal.TheVariants.{Garbled, NoMemory}
use Rattle.reply_join.specs.Garbled.{IsGarbledAt}
use Rattle.reply_join.specs.declared.joining.NoReply.{NoReply}
use Rattle.reply_join.specs.declared.joining.NoReply.TheVariants.{Header, TooShort}
use Rattle.transaction_codec.specs.Request.{SpellsRequests}

-- the operation can fail with this info code after so many words
abbrev pub CanFail : Op → ℕ → ℕ → Type 0
CanFail op count code = Fails op code count (values_after (op_kind op) count)

-- a reply to the operation may have this words field and info code
abbrev pub IsOutcome : Op → ℕ → ℕ → Type 0
IsOutcome op count code = ((code ≡ SUCCESS) × (count ≡ op_count op)) ⊎ CanFail op count code

-- the word is the header of a reply to the request, with this words field and info code
abbrev pub IsHeaderTo : Request → ℕ → ℕ → ℕ → Type 0
IsHeaderTo request word count code = (word ≡ header request.tid count (op_kind request.op) code)
    × IsOutcome request.op count code

-- the reply is one to the request: done or failed
pub record IsReplyOf (request : Request) (reply : Reply) : Type 0 where
  pub is : IsReply reply
  pub answers : IsDone request reply ⊎ IsFailed request reply

-- the first word is no header of a reply to the request
pub record HasNoHeader (request : Request) (words : List ℕ) : Type 0 where
  pub word : ℕ
  pub after : List ℕ
  pub parts : words ≡ word ∷ after
  pub none : (count code : ℕ) → IsHeaderTo request word count code → ⊥

-- the words are a reply to the request that ends too early
pub record IsShort (request : Request) (words : List ℕ) : Type 0 where
  pub reply : Reply
  pub more : List ℕ
  pub is : IsReplyOf request reply
  pub some : 0 < length more
  pub spelled : reply_words reply ≡ words ++ more

-- why no reply to the request stands at the front of the words
abbrev pub HasNoReply : Request → List ℕ → NoReply → Type 0
HasNoReply request words Header = HasNoHeader request words
HasNoReply request words TooShort = IsShort request words

-- the place of the fault in a reply of so many words, of which so many are left: a header at fault is the first of them
abbrev pub fault_place : NoReply → ℕ → ℕ → ℕ
fault_place Header all left = all - left
fault_place TooShort all left = all

-- each of these requests stands behind one that failed
pub record AreSkipped (body : List ℕ) (answers : List Answer) : Type 0 where
  pub spells : SpellsRequests body
  pub skipped : answers ≡ replicate (length spells.0) Skipped

-- a refusal names that place, unless memory ran out
abbrev pub IsRefusal : List ℕ → List ℕ → JoinRefusal → Type 0
IsRefusal body reply (Garbled place) = IsGarbledAt body reply place
IsRefusal body reply NoMemory = Unit {0}
