use Rattle.std.proofs.Common.{◌≡◌, drop}
use Rattle.lane_tables.specs.Books.{later_by, row_at}
use Rattle.lane_tables.proofs.rows.row_at.Given as goal

abbrev pub invariant-loop-at : goal.invariant-loop-at
invariant-loop-at l = later_by l.at (row_at l.client (drop l.at l.rows)) ≡ row_at l.client l.rows
