use Rattle.std.proofs.Common.{◌≡◌, ◌≤◌, ◌<◌, ℕ, true}
use Rattle.lane_tables.specs.Books.{is_marked}
use Rattle.lane_tables.proofs.rows.untaken_from.Given as goal

-- all bodies so far were taken
abbrev pub invariant-loop-at : goal.invariant-loop-at
invariant-loop-at l = (n : ℕ) → l.from ≤ n → n < l.at → is_marked l.bodies n ≡ true
