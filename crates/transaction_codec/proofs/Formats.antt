-- Requests and replies each are a format.
use Rattle.std.proofs.Common.{arith}
use Rattle.transaction_codec.specs.Request.{request_words, IsRequest, BreaksRequest, request_at}
use Rattle.transaction_codec.specs.Reply.{reply_words, IsReply, BreaksReply, reply_at}
use Rattle.transaction_codec.proofs.Lists.{IsFormat}
use Rattle.transaction_codec.proofs.Transactions.{refuses}
use Rattle.transaction_codec.proofs.Requests.{request_again, requests_read}
use Rattle.transaction_codec.proofs.Replies.{reply_again, replies_read}

pub requests_format : IsFormat request_words IsRequest BreaksRequest request_at
requests_format = record { again = request_again; has_words = λ request. omega arith; refuses = refuses requests_read }

pub replies_format : IsFormat reply_words IsReply BreaksReply reply_at
replies_format = record { again = reply_again; has_words = λ reply. omega arith; refuses = refuses replies_read }
