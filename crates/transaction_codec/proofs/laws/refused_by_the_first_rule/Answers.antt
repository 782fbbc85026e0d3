use Rattle.std.proofs.Common.{◌∷◌, arith}
use Rattle.transaction_codec.proofs.Transactions.{refuses}
use Rattle.transaction_codec.proofs.Requests.{requests_read}
use Rattle.transaction_codec.proofs.Replies.{replies_read}
use Rattle.transaction_codec.proofs.laws.refused_by_the_first_rule.Goals as goal

pub returns-clause-request : goal.returns-clause-request
returns-clause-request c word after why refused = refuses requests_read (word ∷ after) why (omega arith) refused

pub returns-clause-reply : goal.returns-clause-reply
returns-clause-reply c word after why refused = refuses replies_read (word ∷ after) why (omega arith) refused
