use Rattle.std.proofs.Common.{◌≡◌, ◌≤◌, ◌++◌, ◌∷◌, [], sym, subst, arith, ap, ◌∙◌, length, length-append}
use Rattle.lane_record.specs.declared.item.Item.{Item}
use Rattle.lane_record.specs.Items.{asked_count}
use Rattle.lane_tables.specs.Books.{BookState, HasMorePlans}
use Rattle.lane_tables.proofs.AskedRows.{claims_few}
use Rattle.lane_tables.proofs.Books.{book_asked, has_next}
use Rattle.lane_tables.proofs.book.Book.ask.Goals as goal

pub add_ask-requires : goal.add_ask-requires
add_ask-requires c = has_next c.self.inside.log.items c.self.inside.rows.items c.args.client
    c.self.invariant.plans_count c.self.invariant.rows_are
    (subst (λ (v : BookState). HasMorePlans c.args.client v.items) (sym c.self.view_is) c.requires.next)

pub overflow_add-self : goal.overflow_add-self
overflow_add-self c =
    let b = c.self.inside in
    let most = claims_few b.log.items in
    let asks = c.self.invariant.asks_are in
    let longer = ap length (c.add.ensures.items) ∙ length-append b.log.items (c.of.result ∷ []) in
    omega (arith, most, asks, longer, c.add.ensures.few)

pub invariant_of-self : goal.invariant_of-self
invariant_of-self c =
    let b = c.self.inside in
    let more = subst (λ (v : BookState). HasMorePlans c.args.client v.items) (sym c.self.view_is) c.requires.next in
    let seq : c.args.seq ≡ asked_count c.args.client b.log.items =
    c.requires.number ∙ ap (λ (v : BookState). asked_count c.args.client v.items) (sym c.self.view_is) in
    let room = ap (λ (v : BookState). v.room) c.self.view_is in
    book_asked b.log c.add.new.self b.rows.items c.add_ask.new.rows.items b.asks b.bodies b.words b.sealed
    c.args.client c.args.seq c.args.give_ups c.self.invariant seq more
    (c.add.ensures.items ∙ ap (λ (x : Item). b.log.items ++ x ∷ []) c.of.ensures)
    (omega (arith, room, c.requires.room, c.add.ensures.room)) c.add_ask.ensures
