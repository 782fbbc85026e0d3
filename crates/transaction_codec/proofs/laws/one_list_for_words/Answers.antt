use Rattle.transaction_codec.specs.Request.{request_words, IsRequest, BreaksRequest, request_at}
use Rattle.transaction_codec.specs.Reply.{reply_words, IsReply, BreaksReply, reply_at}
use Rattle.transaction_codec.proofs.Lists.{one_list}
use Rattle.transaction_codec.proofs.Formats.{requests_format, replies_format}
use Rattle.transaction_codec.proofs.laws.one_list_for_words.Goals as goal

pub returns-clause-requests : goal.returns-clause-requests
returns-clause-requests c = one_list request_words IsRequest BreaksRequest request_at requests_format

pub returns-clause-replies : goal.returns-clause-replies
returns-clause-replies c = one_list reply_words IsReply BreaksReply reply_at replies_format
