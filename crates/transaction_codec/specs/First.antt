-- What the readers of one request or one reply answer, with its words where they stand in the body. Profile.
use Rattle.std.specs.Prelude.{◌≡◌, ◌⊎◌, ℕ, List, [], Result, Ok, Err, MatchResult}
use Rattle.transaction_codec.specs.declared.request.Op.{Op}
use Rattle.transaction_codec.specs.declared.request.Op.TheVariants as owned
use Rattle.transaction_codec.specs.declared.request.Request.{Request}
use Rattle.transaction_codec.specs.declared.reply.Reply.{Reply}
use Rattle.transaction_codec.specs.declared.refusal.Why.{Why}
use Rattle.transaction_codec.specs.declared.refusal.Why.TheVariants.{Short}
use Rattle.transaction_codec.specs.declared.op_ref.OpRef.{OpRef}
use Rattle.transaction_codec.specs.declared.op_ref.OpRef.TheVariants.{Read, ReadPort, Write, WritePort, RmwBits, RmwSum}
use Rattle.transaction_codec.specs.declared.first.FirstRequest.{FirstRequest}
use Rattle.transaction_codec.specs.declared.first.FirstReply.{FirstReply}
use Rattle.transaction_codec.specs.Request.{request_at}
use Rattle.transaction_codec.specs.Reply.{reply_at}
use Rattle.transaction_codec.specs.Listing.{IsFirstRule}

abbrev pub op_of : OpRef → Op
op_of (Read base count) = owned.Read base count
op_of (ReadPort base count) = owned.ReadPort base count
op_of (Write base words) = owned.Write base words.now
op_of (WritePort base words) = owned.WritePort base words.now
op_of (RmwBits base and_term or_term) = owned.RmwBits base and_term or_term
op_of (RmwSum base addend) = owned.RmwSum base addend

abbrev pub request_of : FirstRequest → Request
request_of first = record { tid = first.tid; op = op_of first.op }

abbrev pub reply_of : FirstReply → Reply
reply_of first = record {
  tid = first.tid;
  kind = first.kind;
  count = first.count;
  code = first.code;
  values =
      first.values.now;
}

-- the reader of one request answers what reading the words as a list answers
abbrev pub ReadsRequest : Result FirstRequest Why → List ℕ → Type 0
ReadsRequest result words =
    MatchResult result (λ first. request_at words ≡ Ok (request_of first, first.rest.now)) (λ why. request_at words
    ≡ Err why)

-- likewise the reader of one reply
abbrev pub ReadsReply : Result FirstReply Why → List ℕ → Type 0
ReadsReply result words =
    MatchResult result (λ first. reply_at words ≡ Ok (reply_of first, first.rest.now)) (λ why. reply_at words ≡ Err why)

-- there is no header, or it breaks this rule and none before it
abbrev pub IsFaultAtFront : (Why → ℕ → List ℕ → Type 0) → List ℕ → Why → Type 0
IsFaultAtFront Breaks words why = ((words ≡ []) × (why ≡ Short)) ⊎ IsFirstRule Breaks words why
