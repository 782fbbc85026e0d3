use Rattle.lane_tables.proofs.Done.{never_done}
use Rattle.lane_tables.proofs.book.Book.has_done_all.Goals as goal

pub returns-in-Some : goal.returns-in-Some
returns-in-Some c = (
  λ is. absurd cc,
  λ done. absurd (never_done c.args.self.now.items c.args.client c.in-Some.field-0 c.in-Some.ensures.some done),
)
