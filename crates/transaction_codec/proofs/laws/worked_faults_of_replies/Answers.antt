use Rattle.std.proofs.Common.{[], ◌∷◌, refl, lit<, inl, inr}
use Rattle.transaction_codec.specs.declared.reply.Reply.{Reply}
use Rattle.transaction_codec.specs.Reply.{reply_at}
use Rattle.transaction_codec.proofs.Formats.{replies_format}
use Rattle.transaction_codec.proofs.ReadSoFar.{fault_after}
use Rattle.transaction_codec.proofs.laws.worked_faults_of_replies.Goals as goal

pub returns-clause-code : goal.returns-clause-code
unfolding reply_at
returns-clause-code c = fault_after replies_format [] (0x20000102 ∷ []) _ tt (lit< tt) refl

-- a write that was done stands before
first : Reply
first = record { tid = 0; kind = 1; count = 0; code = 0; values = [] }

pub returns-clause-kind : goal.returns-clause-kind
unfolding reply_at first
returns-clause-kind c =
    fault_after replies_format (first ∷ []) (0x20000141 ∷ []) _
    (record { tid = lit< tt; count = lit< tt; form = inl (refl, inr (inl (inl refl, refl))); values = tt }, tt)
    (lit< tt) refl

pub returns-clause-count : goal.returns-clause-count
unfolding reply_at
returns-clause-count c = fault_after replies_format [] (0x20000144 ∷ 7 ∷ []) _ tt (lit< tt) refl

pub returns-clause-short : goal.returns-clause-short
unfolding reply_at
returns-clause-short c = fault_after replies_format [] (0x20000100 ∷ []) _ tt (lit< tt) refl
