use Rattle.std.proofs.Common.{◌≡◌, ◌≤◌, ◌++◌, ◌∷◌, [], sym, subst, arith, ap, ◌∙◌, refl, ◌+◌, List, ℕ}
use Rattle.std.proofs.Common.{length}
use Rattle.transaction_codec.specs.Answer.{reply_room}
use Rattle.lane_record.specs.declared.item.Item.{Item}
use Rattle.lane_tables.specs.Planned.{IsFull}
use Rattle.lane_record.specs.Items.{planned_count}
use Rattle.lane_tables.specs.Books.{BookState, with_plan}
use Rattle.lane_tables.proofs.Books.{book_planned}
use Rattle.lane_tables.proofs.book.Book.plan.Goals as goal

pub invariant_of-self-2 : goal.invariant_of-self-2
invariant_of-self-2 c =
    let b = c.self.inside in
    let view = sym c.self.view_is in
    let seq : c.planned-seq.result ≡ planned_count c.args.client b.log.items =
    c.planned-seq.ensures ∙ ap (λ (v : BookState). planned_count c.args.client v.items) view in
    let few = subst (λ (v : BookState). ¬ IsFull v.items (length c.args.body) (reply_room c.args.body)) view
    c.requires.few in
    let same : c.body_of.result ≡ c.args.body = (let is = c.body_of.ensures in cc) in
    let rows = c.in_ok-add_plan.ensures.ok ∙ ap (λ (ws : List ℕ). with_plan c.args.client ws b.rows.items) same in
    let room = ap (λ (v : BookState). v.room) c.self.view_is in
    book_planned b.log c.add.new.self b.rows.items c.add_plan.new.rows.items b.asks b.bodies b.words (b.bodies + 1)
    (b.words + (c.len.result + c.from.result)) b.sealed c.args.client c.planned-seq.result c.args.body
    c.self.invariant seq few
    (c.add.ensures.items ∙ ap (λ (x : Item). b.log.items ++ x ∷ []) c.of-note.ensures)
    (omega (arith, room, c.requires.room, c.add.ensures.room)) rows refl
    (omega (arith, c.len.ensures, c.from.ensures, c.requires.reply))
