-- The answers of a reply as a function of the body's words and the reply's: both are read, and the answers are given
-- where the replies answer the requests. Profile.
use Rattle.std.specs.Prelude.{ℕ, zero, suc, Bool, true, false, ◌==◌, ◌&&◌, ◌||◌, nat_lt, nat_le, if◌then◌else◌}
use Rattle.std.specs.Prelude.{List, [], ◌∷◌, length, Option, Some, None, option_map, option_and_then, Result, Ok, Err}
use Rattle.transaction_codec.specs.declared.request.Op.{Op}
use Rattle.transaction_codec.specs.declared.request.Op.TheVariants.{Read, ReadPort, Write, WritePort, RmwBits, RmwSum}
use Rattle.transaction_codec.specs.declared.request.Request.{Request}
use Rattle.transaction_codec.specs.declared.reply.Reply.{Reply}
use Rattle.transaction_codec.specs.declared.refusal.Why.{Why}
use Rattle.transaction_codec.specs.declared.info_code.TheConstants.{SUCCESS, READ_ERROR, WRITE_ERROR, READ_TIMEOUT}
use Rattle.transaction_codec.specs.declared.info_code.TheConstants.{WRITE_TIMEOUT}
use Rattle.transaction_codec.specs.Request.{op_kind, op_count, request_at}
use Rattle.transaction_codec.specs.Reply.{reply_at}
use Rattle.transaction_codec.specs.Answer.{values_done}
use Rattle.reply_join.specs.declared.answer.Answer.{Answer}
use Rattle.reply_join.specs.Joining.{answers_to}

-- one item that was read, and what reading the words after it gives
abbrev pub read_then : {Item : Type 0} → Result (Item × List ℕ) Why → (List ℕ → Option (List Item)) → Option (List Item)
read_then (Ok (item, rest)) more = option_map (λ items. item ∷ items) (more rest)
read_then (Err why) more = None

-- the items that words are, at most so many, by a reader of one; none where the words are no list of items
abbrev pub read_all : {Item : Type 0} → (List ℕ → Result (Item × List ℕ) Why) → ℕ → List ℕ → Option (List Item)
read_all item_at most [] = Some []
read_all item_at zero (word ∷ words) = None
read_all item_at (suc most) (word ∷ words) = read_then (item_at (word ∷ words)) (read_all item_at most)

-- the requests, and the replies, that words are: no more than there are words
abbrev pub requests_in : List ℕ → Option (List Request)
requests_in words = read_all request_at (length words) words

abbrev pub replies_in : List ℕ → Option (List Reply)
replies_in words = read_all reply_at (length words) words

-- the reply has the identifier and the type of the request
abbrev pub is_named : Request → Reply → Bool
is_named request reply = reply.tid == request.tid && reply.kind == op_kind request.op

-- it did all of the request
abbrev pub is_done : Request → Reply → Bool
is_done request reply =
    (is_named request reply && reply.code == SUCCESS)
    && (reply.count == op_count request.op && length reply.values == values_done request.op)

-- a read, a write or an RMW that fails with this code after `count` words carries so many values
abbrev pub read_fails : ℕ → ℕ → ℕ → ℕ → Bool
read_fails asked code count values =
    (code == READ_ERROR || code == READ_TIMEOUT) && (nat_lt count asked && values == count)

abbrev pub write_fails : ℕ → ℕ → ℕ → ℕ → Bool
write_fails asked code count values =
    (code == WRITE_ERROR || code == WRITE_TIMEOUT) && (nat_lt count asked && values == 0)

abbrev pub rmw_fails : ℕ → ℕ → ℕ → Bool
rmw_fails code count values =
    (nat_le READ_ERROR code && nat_le code WRITE_TIMEOUT) && (count == 0 && values == 0)

abbrev pub fails : Op → ℕ → ℕ → ℕ → Bool
fails (Read base asked) code count values = read_fails asked code count values
fails (ReadPort base asked) code count values = read_fails asked code count values
fails (Write base words) code count values = write_fails (length words) code count values
fails (WritePort base words) code count values = write_fails (length words) code count values
fails (RmwBits base and_term or_term) code count values = rmw_fails code count values
fails (RmwSum base addend) code count values = rmw_fails code count values

-- the request failed
abbrev pub is_failed : Request → Reply → Bool
is_failed request reply =
    is_named request reply && fails request.op reply.code reply.count (length reply.values)

abbrev pub is_last : List Reply → Bool
is_last [] = true
is_last (reply ∷ replies) = false

-- each request is done and the replies after it answer the requests after it, or it fails and its reply is the last
abbrev pub do_answer : List Request → List Reply → Bool
do_answer [] [] = true
do_answer [] (reply ∷ replies) = false
do_answer (request ∷ requests) [] = false
do_answer (request ∷ requests) (reply ∷ replies) =
    (is_done request reply && do_answer requests replies) || (is_failed request reply && is_last replies)

-- the answers that replies give to requests; none where they do not answer them
abbrev pub answers_where : List Request → List Reply → Option (List Answer)
answers_where requests replies = if do_answer requests replies then Some (answers_to requests replies) else None

-- The answers that a reply's words give to the requests of a body's words; none where they are no reply to that body.
abbrev pub answers : List ℕ → List ℕ → Option (List Answer)
answers body reply =
    option_and_then (λ requests. option_and_then (answers_where requests) (replies_in reply)) (requests_in body)
