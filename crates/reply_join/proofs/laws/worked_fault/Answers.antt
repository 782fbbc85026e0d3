use Rattle.std.proofs.Common.{inl, inr, [], ◌∷◌, refl, lit<, lit≤}
use Rattle.transaction_codec.specs.declared.request.Request.{Request}
use Rattle.transaction_codec.specs.declared.request.Op.TheVariants.{Read}
use Rattle.transaction_codec.specs.declared.reply.Reply.{Reply}
use Rattle.transaction_codec.specs.Request.{IsRequest}
use Rattle.transaction_codec.specs.Reply.{IsReply}
use Rattle.transaction_codec.specs.Answer.{IsFailed}
use Rattle.reply_join.specs.declared.answer.Answer.TheVariants.{Skipped}
use Rattle.reply_join.specs.Progress.{AreSkipped}
use Rattle.reply_join.proofs.Joined.{joined_failed}
use Rattle.reply_join.proofs.laws.worked_fault.Goals as goal

abbrev first : Request
first = record { tid = 0; op = Read 0x1000 10 }

abbrev second : Request
second = record { tid = 1; op = Read 0 1 }

abbrev reply : Reply
reply = record { tid = 0; kind = 0; count = 8; code = 4; values = 0 ∷ 0 ∷ 0 ∷ 0 ∷ 0 ∷ 0 ∷ 0 ∷ 0 ∷ [] }

is_first : IsRequest first
is_first = record { tid = lit< tt; count = lit< tt; words = (lit< tt, tt) }

is_second : IsRequest second
is_second = record { tid = lit< tt; count = lit< tt; words = (lit< tt, tt) }

is_reply : IsReply reply
is_reply = record {
  tid = lit< tt;
  count = lit< tt;
  form = inr (inl ((lit≤ tt, lit≤ tt), inl (inl refl, refl)));
  values = (lit< tt, (lit< tt, (lit< tt, (lit< tt, (lit< tt, (lit< tt, (lit< tt, (lit< tt, tt))))))));
}

is_failed : IsFailed first reply
is_failed = record { tid = refl; kind = refl; fault = (inl refl, lit< tt, refl) }

skipped : AreSkipped (0x2001010f ∷ 0 ∷ []) (Skipped ∷ [])
skipped = record { spells = (second ∷ [], (is_second, tt), refl); skipped = refl }

pub returns : goal.returns
returns c = joined_failed first reply (0x2001010f ∷ 0 ∷ []) (Skipped ∷ []) is_first is_reply is_failed skipped
