use Rattle.transaction_codec.proofs.Transactions.{found}
use Rattle.transaction_codec.proofs.Requests.{requests_read}
use Rattle.transaction_codec.proofs.Replies.{replies_read}
use Rattle.transaction_codec.proofs.laws.read_is_spelled_so.Goals as goal

pub returns-clause-request : goal.returns-clause-request
returns-clause-request c words rest request fits reads = found requests_read words (request, rest) fits reads

pub returns-clause-reply : goal.returns-clause-reply
returns-clause-reply c words rest reply fits reads = found replies_read words (reply, rest) fits reads
