use Rattle.std.proofs.Common.{◌≤◌, ◌<◌, ◌++◌, ◌∷◌, ◌∙◌, [], List, sym, subst, arith, ap}
use Rattle.lane_record.specs.declared.item.Item.{Item}
use Rattle.lane_record.specs.Items.{asked_count}
use Rattle.lane_tables.specs.Books.{BookState}
use Rattle.lane_tables.proofs.Books.{book_taken, has_asked}
use Rattle.lane_tables.proofs.book.Book.take.Goals as goal

pub add_took-requires : goal.add_took-requires
add_took-requires c = has_asked c.self.inside.log.items c.self.inside.rows.items c.args.client c.args.seq
    c.self.invariant.rows_are
    (subst (λ (v : BookState). c.args.seq < asked_count c.args.client v.items) (sym c.self.view_is) c.requires.asked)

pub invariant_of-self : goal.invariant_of-self
invariant_of-self c =
    let b = c.self.inside in
    let below = subst (λ (v : BookState). c.args.seq < asked_count c.args.client v.items) (sym c.self.view_is)
    c.requires.asked in
    let room = ap (λ (v : BookState). v.room) c.self.view_is in
    book_taken b.log c.add.new.self b.rows.items c.add_took.new.rows.items b.asks b.bodies b.words b.sealed
    c.args.client c.args.seq c.args.outcome c.args.give_ups c.self.invariant below
    (c.add.ensures.items ∙ ap (λ (x : Item). b.log.items ++ x ∷ []) c.of.ensures)
    (omega (arith, room, c.requires.room, c.add.ensures.room)) c.add_took.ensures
