use Rattle.transaction_codec.specs.Request.{request_words, IsRequest, BreaksRequest, request_at}
use Rattle.transaction_codec.specs.Reply.{reply_words, IsReply, BreaksReply, reply_at}
use Rattle.transaction_codec.proofs.Lists.{one_fault}
use Rattle.transaction_codec.proofs.Formats.{requests_format, replies_format}
use Rattle.transaction_codec.proofs.laws.one_first_fault.Goals as goal

pub returns-clause-requests : goal.returns-clause-requests
returns-clause-requests c words place other why rule left right =
    one_fault request_words IsRequest BreaksRequest request_at requests_format words place other why rule left right

pub returns-clause-replies : goal.returns-clause-replies
returns-clause-replies c words place other why rule left right =
    one_fault reply_words IsReply BreaksReply reply_at replies_format words place other why rule left right
