use Rattle.std.proofs.Common.{length}
use Rattle.transaction_codec.specs.Request.{request_words, IsRequest}
use Rattle.capture_reader.specs.Rows.{request_text}
use Rattle.capture_reader.proofs.AddedLines.{IsWritten}
use Rattle.capture_reader.proofs.texts.push_requests.Given as goal

abbrev pub invariant-loop-rest : goal.invariant-loop-rest
invariant-loop-rest l = IsWritten request_words IsRequest request_text l.words l.fn.out.items l.out.items l.rest

abbrev pub decreases-loop-rest : goal.decreases-loop-rest
decreases-loop-rest l = length l.rest
