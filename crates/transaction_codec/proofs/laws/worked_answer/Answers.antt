use Rattle.std.proofs.Common.{[], ◌∷◌, refl, lit<, inl}
use Rattle.transaction_codec.specs.declared.request.Request.{Request}
use Rattle.transaction_codec.specs.declared.request.Op.TheVariants.{Read}
use Rattle.transaction_codec.specs.declared.reply.Reply.{Reply}
use Rattle.transaction_codec.specs.Request.{NoRequestAtFront, request_at}
use Rattle.transaction_codec.specs.Answer.{bad_header_reply}
use Rattle.transaction_codec.proofs.Longest.{no_request, bad_is_reply}
use Rattle.transaction_codec.proofs.laws.worked_answer.Goals as goal

request : Request
request = record { tid = 0; op = Read 4 1 }

reply : Reply
reply = record { tid = 0; kind = 0; count = 1; code = 0; values = 0xabcd ∷ [] }

-- a header of type 6
bad : NoRequestAtFront (0x2001016f ∷ 0 ∷ [])
unfolding request_at
bad = no_request (0x2001016f ∷ 0 ∷ []) refl

pub returns : goal.returns
unfolding request reply
returns c = record {
  requests = request ∷ [];
  rest = 0x2001016f ∷ 0 ∷ [];
  replies = reply ∷ bad_header_reply 0x2001016f ∷ [];
  ranges = (record { tid = lit< tt; count = lit< tt; words = (lit< tt, tt) }, tt);
  parts = refl;
  bad = bad;
  items = (
    record { tid = lit< tt; count = lit< tt; form = inl (refl, inl (inl refl, refl)); values = (lit< tt, tt) },
    (bad_is_reply 0x2001016f, tt),
  );
  answers = inl (record { tid = refl; kind = refl; code = refl; count = refl; values = refl }, refl);
  spelled = refl;
}
