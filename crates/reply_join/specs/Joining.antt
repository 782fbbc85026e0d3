-- What a reply answers to the requests of a body. IPbus 2.0, transactions; that the first fault ends a packet is the
-- profile's.
use Rattle.std.specs.Prelude.{◌≡◌, ℕ, ◌-◌, ◌<◌, ◌==◌, true, false, not, if◌then◌else◌}
use Rattle.std.specs.Prelude.{List, ◌++◌, length, map, replicate, Some, slice_get}
use Rattle.transaction_codec.specs.declared.request.Request.{Request}
use Rattle.transaction_codec.specs.declared.reply.Reply.{Reply}
use Rattle.transaction_codec.specs.declared.info_code.TheConstants.{SUCCESS}
use Rattle.transaction_codec.specs.Header.{is_write}
use Rattle.transaction_codec.specs.Request.{op_kind, op_count}
use Rattle.transaction_codec.specs.Answer.{Fails, IsReplyTo}
use Rattle.reply_join.specs.declared.answer.Answer.{Answer}
use Rattle.reply_join.specs.declared.answer.Answer.TheVariants.{Values, Done, Fault, Skipped}

-- what one reply says of its request: the values of a read or of an RMW, that a write was done, or the fault
abbrev pub answer_of : Reply → Answer
answer_of reply =
    if not (reply.code == SUCCESS) then Fault reply.code reply.count
    else if is_write reply.kind then Done
    else Values reply.values

-- each request's answer: those of the replies, then one for each request behind the failed one, which has no reply
abbrev pub answers_to : List Request → List Reply → List Answer
answers_to requests replies = map answer_of replies ++ replicate (length requests - length replies) Skipped

-- the words are a reply to the body, and these are the answers to its requests
abbrev pub IsJoined : List ℕ → List ℕ → List Answer → Type 0
IsJoined body reply answers = (is : IsReplyTo body reply) × (answers ≡ answers_to is.requests is.replies)

-- The answer is one to the request: values, as many words as were asked for, to a read or an RMW; that it was done,
-- to a write; a fault with the words done before it; or that it was skipped.
abbrev pub IsAnswerTo : Request → Answer → Type 0
IsAnswerTo request (Values values) = (is_write (op_kind request.op) ≡ false) × (length values ≡ op_count request.op)
IsAnswerTo request Done = is_write (op_kind request.op) ≡ true
IsAnswerTo request (Fault code after) = (carried : ℕ) × Fails request.op code after carried
IsAnswerTo request Skipped = Unit {0}

-- a place behind that of a fault
pub record IsBehindFault (answers : List Answer) (place : ℕ) : Type 0 where
  pub earlier : ℕ
  pub code : ℕ
  pub after : ℕ
  pub before : earlier < place
  pub fault : slice_get answers earlier ≡ Some (Fault code after)
