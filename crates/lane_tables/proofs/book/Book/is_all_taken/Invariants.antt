use Rattle.lane_tables.proofs.Done.{HaveDoneAll}
use Rattle.lane_tables.proofs.book.Book.is_all_taken.Given as goal

abbrev pub invariant-loop-at : goal.invariant-loop-at
invariant-loop-at l = HaveDoneAll l.self.items l.self-inside.rows.items l.at
