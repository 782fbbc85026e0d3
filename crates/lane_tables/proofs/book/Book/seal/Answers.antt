use Rattle.std.proofs.Common.{◌≡◌, ◌∙◌, ◌++◌, ◌∷◌, [], List, ap}
use Rattle.lane_record.specs.declared.item.Item.{Item}
use Rattle.lane_tables.proofs.Books.{book_sealed}
use Rattle.lane_tables.proofs.book.Book.seal.Goals as goal

pub invariant_of-self : goal.invariant_of-self
invariant_of-self c =
    let b = c.self.inside in
    book_sealed b.log c.add.new.self b.rows.items b.asks b.bodies b.words b.sealed c.self.invariant
    (c.add.ensures.items ∙ ap (λ (x : Item). b.log.items ++ x ∷ []) c.of.ensures)
