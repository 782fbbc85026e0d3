use Rattle.std.proofs.Common.{ℕ, ◌+◌, ◌*◌, ◌≤◌, length}
use Rattle.transaction_codec.specs.Answer.{IsLongestAnswer}
use Rattle.transaction_codec.proofs.room.reply_room.Given as goal

-- The room so far and that of the rest are that of the body. A request has a word at least, and a reply to it 256 at
-- most.
abbrev pub invariant-loop-rest : goal.invariant-loop-rest
invariant-loop-rest l = record {
  whole : (more : ℕ) → IsLongestAnswer l.rest more → IsLongestAnswer l.body (l.room + more);
  small : l.room + 256 * length l.rest ≤ 256 * length l.body;
}

abbrev pub decreases-loop-rest : goal.decreases-loop-rest
decreases-loop-rest l = length l.rest
