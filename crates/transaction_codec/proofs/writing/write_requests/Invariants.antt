use Rattle.std.proofs.Common.{◌≡◌, take}
use Rattle.transaction_codec.specs.Request.{AreRequests, requests_words}
use Rattle.transaction_codec.proofs.writing.write_requests.Given as goal

-- the requests so far are spelled and have their ranges
abbrev pub invariant-loop-request : goal.invariant-loop-request
invariant-loop-request l = record {
  spelled : l.out.items ≡ requests_words (take l.request-index l.list);
  ranges : AreRequests (take l.request-index l.list);
}
