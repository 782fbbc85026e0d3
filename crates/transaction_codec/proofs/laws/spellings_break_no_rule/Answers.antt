use Rattle.std.proofs.Common.{ap, sym, ◌∙◌}
use Rattle.transaction_codec.specs.Request.{request_at}
use Rattle.transaction_codec.specs.Reply.{reply_at}
use Rattle.transaction_codec.proofs.Transactions.{keeps_rules}
use Rattle.transaction_codec.proofs.Requests.{request_again, requests_read}
use Rattle.transaction_codec.proofs.Replies.{reply_again, replies_read}
use Rattle.transaction_codec.proofs.laws.spellings_break_no_rule.Goals as goal

pub returns-clause-request : goal.returns-clause-request
returns-clause-request c request rest after word why is spelled =
    keeps_rules requests_read word after (request, rest) why
    (ap request_at (sym spelled) ∙ request_again request rest is)

pub returns-clause-reply : goal.returns-clause-reply
returns-clause-reply c reply rest after word why is spelled =
    keeps_rules replies_read word after (reply, rest) why (ap reply_at (sym spelled) ∙ reply_again reply rest is)
