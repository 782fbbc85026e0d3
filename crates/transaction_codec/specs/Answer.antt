-- Which words answer a body. The device is any that gives a word or a code for each access, whether it remembers what
-- was written or not. IPbus 2.0, transactions; what a failed transaction and a bad header answer is the profile's.
use Rattle.std.specs.Prelude.{◌≡◌, ◌⊎◌, ℕ, zero, suc, ◌+◌, ◌≤◌, ◌<◌, List, [], ◌∷◌, ◌++◌, length, Result, Ok, Err}
use Rattle.transaction_codec.specs.declared.request.Op.{Op}
use Rattle.transaction_codec.specs.declared.request.Op.TheVariants.{Read, ReadPort, Write, WritePort, RmwBits, RmwSum}
use Rattle.transaction_codec.specs.declared.request.Request.{Request}
use Rattle.transaction_codec.specs.declared.reply.Reply.{Reply}
use Rattle.transaction_codec.specs.declared.refusal.Why.{Why}
use Rattle.transaction_codec.specs.declared.transaction_type.TheConstants.{READ}
use Rattle.transaction_codec.specs.declared.info_code.TheConstants.{SUCCESS, BAD_HEADER, READ_ERROR, WRITE_ERROR}
use Rattle.transaction_codec.specs.declared.info_code.TheConstants.{READ_TIMEOUT, WRITE_TIMEOUT}
use Rattle.transaction_codec.specs.Header.{tid_of}
use Rattle.transaction_codec.specs.Request.{op_kind, op_count, AreRequests, requests_words, request_at}
use Rattle.transaction_codec.specs.Request.{NoRequestAtFront}
use Rattle.transaction_codec.specs.Reply.{IsBusFault, AreReplies, replies_words}

-- the words of a reply that did all of the operation: those read, nothing for a write, the word before for an RMW
abbrev pub values_done : Op → ℕ
values_done (Read base count) = count
values_done (ReadPort base count) = count
values_done (Write base words) = 0
values_done (WritePort base words) = 0
values_done (RmwBits base and_term or_term) = 1
values_done (RmwSum base addend) = 1

-- The operation failed with this code after `count` words, of which the reply carries `values`. A read of no words,
-- and a write of none, does not fail.
abbrev pub Fails : Op → ℕ → ℕ → ℕ → Type 0
Fails (Read base asked) code count values = ((code ≡ READ_ERROR) ⊎ (code ≡ READ_TIMEOUT)) × (count < asked)
    × (values ≡ count)
Fails (ReadPort base asked) code count values = ((code ≡ READ_ERROR) ⊎ (code ≡ READ_TIMEOUT)) × (count < asked)
    × (values ≡ count)
Fails (Write base words) code count values = ((code ≡ WRITE_ERROR) ⊎ (code ≡ WRITE_TIMEOUT)) × (count < length words)
    × (values ≡ 0)
Fails (WritePort base words) code count values = ((code ≡ WRITE_ERROR) ⊎ (code ≡ WRITE_TIMEOUT))
    × (count < length words) × (values ≡ 0)
Fails (RmwBits base and_term or_term) code count values = IsBusFault code × (count ≡ 0) × (values ≡ 0)
Fails (RmwSum base addend) code count values = IsBusFault code × (count ≡ 0) × (values ≡ 0)

-- a reply to a request that was done: its identifier and type, code 0 and its full count
pub record IsDone (request : Request) (reply : Reply) : Type 0 where
  pub tid : reply.tid ≡ request.tid
  pub kind : reply.kind ≡ op_kind request.op
  pub code : reply.code ≡ SUCCESS
  pub count : reply.count ≡ op_count request.op
  pub values : length reply.values ≡ values_done request.op

-- a reply to a request that failed: its identifier and type, and the words done before the fault
pub record IsFailed (request : Request) (reply : Reply) : Type 0 where
  pub tid : reply.tid ≡ request.tid
  pub kind : reply.kind ≡ op_kind request.op
  pub fault : Fails request.op reply.code reply.count (length reply.values)

-- The replies to these requests: each is done and followed by the replies to the rest, or fails and is the last.
-- `ending` is what follows where all are done.
abbrev pub Answers : List Request → List Reply → List Reply → Type 0
Answers [] ending replies = replies ≡ ending
Answers (request ∷ requests) ending [] = ⊥
Answers (request ∷ requests) ending (reply ∷ replies) =
    (IsDone request reply × Answers requests ending replies) ⊎ (IsFailed request reply × (replies ≡ []))

-- the words are a reply to a body of requests, whole
pub record IsReplyTo (body reply : List ℕ) : Type 0 where
  pub requests : List Request
  pub replies : List Reply
  pub ranges : AreRequests requests
  pub asked : body ≡ requests_words requests
  pub items : AreReplies replies
  pub answers : Answers requests [] replies
  pub spelled : reply ≡ replies_words replies

-- the reply to a bad header: one header with its identifier and code 1
abbrev pub bad_header_reply : ℕ → Reply
bad_header_reply word = record { tid = tid_of word; kind = READ; count = 0; code = BAD_HEADER; values = [] }

-- what a board answers to what stands after the requests: nothing to nothing, one reply to a bad header and all after
-- it
abbrev pub ending_of : List ℕ → List Reply
ending_of [] = []
ending_of (word ∷ words) = bad_header_reply word ∷ []

-- The words are what a board can answer to a body, which may have a bad header: replies to the requests before it, and
-- where all of them are done one reply to the bad header. Nothing after it counts.
pub record CanAnswer (body answer : List ℕ) : Type 0 where
  pub requests : List Request
  pub rest : List ℕ
  pub replies : List Reply
  pub ranges : AreRequests requests
  pub parts : body ≡ requests_words requests ++ rest
  pub bad : NoRequestAtFront rest
  pub items : AreReplies replies
  pub answers : Answers requests (ending_of rest) replies
  pub spelled : answer ≡ replies_words replies

-- the length in words of the longest answer that a board can give to a body
pub record IsLongestAnswer (body : List ℕ) (room : ℕ) : Type 0 where
  pub longest : (answer : List ℕ) → CanAnswer body answer → length answer ≤ room
  pub answer : List ℕ
  pub given : CanAnswer body answer
  pub reached : length answer ≡ room

-- The longest answer is one header for each request and the words of a reply that did all of it. A place where no
-- request stands counts as one word, and nothing after it counts.
abbrev pub room_first : Result (Request × List ℕ) Why → (List ℕ → ℕ) → ℕ
room_first (Ok (request, rest)) later = 1 + values_done request.op + later rest
room_first (Err why) later = 1

-- that of at most so many requests at the front of the words
abbrev pub room_from : ℕ → List ℕ → ℕ
room_from zero words = 0
room_from (suc most) [] = 0
room_from (suc most) (word ∷ after) = room_first (request_at (word ∷ after)) (room_from most)

-- the length in words of the longest answer to a body, which has no more requests than words
abbrev pub reply_room : List ℕ → ℕ
reply_room body = room_from (length body) body
