use Rattle.std.proofs.Common.{◌≡◌, inl, inr, ℕ, ◌+◌, ◌*◌, [], ◌∷◌, refl, arith, lit<}
use Rattle.transaction_codec.specs.declared.request.Request.{Request}
use Rattle.transaction_codec.specs.declared.request.Op.TheVariants.{Read}
use Rattle.transaction_codec.specs.declared.reply.Reply.{Reply}
use Rattle.transaction_codec.specs.Request.{IsRequest}
use Rattle.transaction_codec.specs.Reply.{IsReply}
use Rattle.transaction_codec.specs.Answer.{IsDone}
use Rattle.transaction_codec.specs.Request.{SpellsRequests}
use Rattle.reply_join.specs.Progress.{IsOutcome}
use Rattle.reply_join.proofs.Garbled.{no_header, ends_early, garbled_later, garbled_end}
use Rattle.reply_join.proofs.Joined.{joined_nothing, joined_done}
use Rattle.reply_join.proofs.laws.worked_read.Goals as goal

abbrev request : Request
request = record { tid = 0; op = Read 4 1 }

abbrev reply : Reply
reply = record { tid = 0; kind = 0; count = 1; code = 0; values = 0xabcd ∷ [] }

is_request : IsRequest request
is_request = record { tid = lit< tt; count = lit< tt; words = (lit< tt, tt) }

is_reply : IsReply reply
is_reply = record { tid = lit< tt; count = lit< tt; form = inl (refl, inl (inl refl, refl)); values = (lit< tt, tt) }

is_done : IsDone request reply
is_done = record { tid = refl; kind = refl; code = refl; count = refl; values = refl }

nothing : SpellsRequests []
nothing = ([], tt, refl)

body : SpellsRequests (0x2000010f ∷ 4 ∷ [])
body = (request ∷ [], (is_request, tt), refl)

pub returns-clause-joined : goal.returns-clause-joined
returns-clause-joined c = joined_done request reply [] [] [] is_request is_reply is_done joined_nothing

other_header : (count code : ℕ) → 0x20010100 ≡ 0x20000000 + count * 256 + code → IsOutcome (Read 4 1) count code → ⊥
other_header count code e (inl done) = omega (arith, done.0, done.1)
other_header count code e (inr fails) = omega (arith, fails.0, fails.1)

pub returns-clause-other_identifier : goal.returns-clause-other_identifier
returns-clause-other_identifier c =
    no_header request [] (0x20010100 ∷ 0xabcd ∷ []) is_request body
    (record {
      word = 0x20010100;
      after = 0xabcd ∷ [];
      parts = refl;
      none = λ count code head. other_header count code
          (omega (arith, head.0)) head.1;
    })

pub returns-clause-cut_short : goal.returns-clause-cut_short
returns-clause-cut_short c =
    ends_early request [] (0x20000100 ∷ []) is_request nothing
    (record {
      reply = reply;
      more = 0xabcd ∷ [];
      is = record { is = is_reply; answers = inl is_done };
      some =
          lit< tt;
      spelled = refl;
    })

pub returns-clause-too_long : goal.returns-clause-too_long
returns-clause-too_long c = garbled_later request reply [] is_request is_reply (0 ∷ []) 0 is_done
    (garbled_end (0 ∷ []) (lit< tt))
