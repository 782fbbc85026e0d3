-- What a board can answer is words.
use Rattle.std.proofs.Common.{ℕ, List, [], ◌∷◌, length, sym, subst, arith}
use Rattle.ipb_base.specs.Word.{AreWords}
use Rattle.ipb_base.proofs.WordLemmas.{AreWords-append}
use Rattle.transaction_codec.specs.declared.reply.Reply.{Reply}
use Rattle.transaction_codec.specs.Reply.{IsReply, AreReplies, reply_words, replies_words}
use Rattle.transaction_codec.specs.Answer.{CanAnswer}
use Rattle.transaction_codec.proofs.Replies.{fields_fit}

one_reply : (r : Reply) → IsReply r → AreWords (reply_words r)
one_reply r is = let f = fields_fit r.kind r.code r.count (length r.values) is.form in
    (omega (arith, is.tid, is.count, f.0, f.1), is.values)

all_replies : (rs : List Reply) → AreReplies rs → AreWords (replies_words rs)
all_replies [] is = tt
all_replies (r ∷ rs) is = AreWords-append (reply_words r) (replies_words rs) (one_reply r is.0) (all_replies rs is.1)

pub answer_words : (body answer : List ℕ) → CanAnswer body answer → AreWords answer
answer_words body answer can = subst AreWords (sym can.spelled) (all_replies can.replies can.items)
