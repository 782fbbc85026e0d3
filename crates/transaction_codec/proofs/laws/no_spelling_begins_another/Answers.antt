use Rattle.transaction_codec.specs.Request.{request_words, IsRequest, BreaksRequest, request_at}
use Rattle.transaction_codec.specs.Reply.{reply_words, IsReply, BreaksReply, reply_at}
use Rattle.transaction_codec.proofs.Lists.{no_proper_prefix}
use Rattle.transaction_codec.proofs.Formats.{requests_format, replies_format}
use Rattle.transaction_codec.proofs.laws.no_spelling_begins_another.Goals as goal

pub returns-clause-requests : goal.returns-clause-requests
returns-clause-requests c = no_proper_prefix request_words IsRequest BreaksRequest request_at requests_format

pub returns-clause-replies : goal.returns-clause-replies
returns-clause-replies c = no_proper_prefix reply_words IsReply BreaksReply reply_at replies_format
