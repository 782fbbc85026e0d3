use Rattle.transaction_codec.proofs.Requests.{request_again}
use Rattle.transaction_codec.proofs.Replies.{reply_again}
use Rattle.transaction_codec.proofs.laws.written_is_read_again.Goals as goal

pub returns-clause-request : goal.returns-clause-request
returns-clause-request c = request_again

pub returns-clause-reply : goal.returns-clause-reply
returns-clause-reply c = reply_again
