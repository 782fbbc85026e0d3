use Rattle.std.proofs.Common.{◌≡◌, ℕ, ◌<◌, get_or, length}
use Rattle.masked_fields.specs.Field.{field}
use Rattle.run_audit.proofs.agreeing.are_fields.Given as goal

-- the fields so far
abbrev pub invariant-loop-i : goal.invariant-loop-i
invariant-loop-i l = record {
  long : length l.told ≡ length l.words;
  same : (k : ℕ) → k < l.i → get_or l.told k 0 ≡ field (get_or l.words k 0) l.mask;
}
