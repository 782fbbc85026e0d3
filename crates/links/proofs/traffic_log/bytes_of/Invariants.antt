use Rattle.std.proofs.Common.{◌≡◌, ◌++◌}
use Rattle.std.specs.Prelude.{drop}
use Rattle.links.proofs.traffic_log.bytes_of.Given as goal

-- those so far, and then the rest
abbrev pub invariant-loop-byte : goal.invariant-loop-byte
invariant-loop-byte l = l.bytes ++ drop l.byte-index l.datagram ≡ l.datagram
