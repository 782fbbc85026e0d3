-- The first `whole` replies are whole, and `rest` bytes stand behind them.
use Rattle.std.proofs.Common.{ℕ, ◌+◌, ◌-◌, ◌≤◌, length, drop}
use Rattle.hub_session.specs.Inside.{AreWholeIn}
use Rattle.hub_session.proofs.progress.whole_in.Given as goal

abbrev pub invariant-counting : goal.invariant-counting
invariant-counting l = record {
  within : l.whole ≤ length l.lengths;
  so_far : (more : ℕ) → AreWholeIn (drop l.whole l.lengths) l.rest more
      → AreWholeIn l.lengths l.count (l.whole + more);
}

abbrev pub decreases-counting : goal.decreases-counting
decreases-counting l = length l.lengths - l.whole
