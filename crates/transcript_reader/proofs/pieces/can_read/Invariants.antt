use Rattle.std.proofs.Common.{◌≡◌, ℕ, ◌<◌}
use Rattle.mtu_packer.specs.Cutting.{piece}
use Rattle.transaction_codec.specs.Answer.{values_done}
use Rattle.transcript_reader.proofs.pieces.can_read.Given as goal

-- no piece so far has so many words
abbrev pub invariant-loop-k : goal.invariant-loop-k
invariant-loop-k l = (i : ℕ) → i < l.k → l.count ≡ values_done (piece l.payload l.op i) → ⊥
