use Rattle.std.proofs.Common.{◌≡◌, ℕ, length, get_or}
use Rattle.run_audit.proofs.asking.make_room.Given as goal

-- there is a count for each board so far, and those that were added are 0
abbrev pub invariant-loop : goal.invariant-loop
invariant-loop l = record {
  grown : length l.counts.items ≡ l.counter;
  same : (b : ℕ) → get_or l.counts.items b 0 ≡ get_or l.initial.counts.items b 0;
}
