use Rattle.std.proofs.Common.{length}
use Rattle.transaction_codec.specs.Request.{request_words, IsRequest}
use Rattle.transaction_codec.proofs.ReadSoFar.{IsReadSoFar}
use Rattle.transaction_codec.proofs.reading.read_requests.Given as goal

abbrev pub invariant-loop-rest : goal.invariant-loop-rest
invariant-loop-rest l = IsReadSoFar request_words IsRequest l.words l.requests.items l.rest

abbrev pub decreases-loop-rest : goal.decreases-loop-rest
decreases-loop-rest l = length l.rest
