use Rattle.lane_tables.proofs.Books.{book_reserved}
use Rattle.lane_tables.proofs.book.Book.reserve.Goals as goal

pub invariant_of-self : goal.invariant_of-self
invariant_of-self c =
    let b = c.self.inside in
    book_reserved b.log b.rows.items b.asks b.bodies b.words b.sealed c.reserve.new.self c.reserve.ensures.items
    c.reserve.ensures.no_less c.self.invariant
