-- The tables of a record, one more entry at a time.
use Rattle.std.proofs.Common.{◌≡◌, ℕ, zero, suc, ◌+◌, ◌<◌, ◌≤◌, Bool, true, false, cond, ◌==◌, ◌||◌, List, [], ◌∷◌}
use Rattle.std.proofs.Common.{◌++◌, length, map, Option, Some, None, refl, sym, ap, ◌∙◌, subst, arith, inl, inr}
use Rattle.std.proofs.Common.{length-append}
use Rattle.std.specs.Prelude.{is_some}
use Rattle.std.specs.List.{slice_get}
use Rattle.std.proofs.lemmas.Bool.{cases_lt, eq-eqb}
use Rattle.std.proofs.lemmas.Bool.Decides.{eqb_tells}
use Rattle.std.proofs.Math.Bool.{and-true, or-true}
use Rattle.std.specs.Option.{option_or}
use Rattle.transaction_codec.specs.Answer.{reply_room}
use Rattle.lane_record.specs.declared.outcome.Outcome.{Outcome}
use Rattle.lane_record.specs.declared.item.Item.{Item}
use Rattle.lane_record.specs.Items.{ask_in, asked_count, told_by_first, is_sealed, plan_in, planned_count}
use Rattle.lane_record.specs.NextEntry.{ask_of, plan_of, the_seal, took_of}
use Rattle.lane_record.proofs.Asks.{get_split}
use Rattle.lane_record.proofs.Lookups.{Count, count_push, found_append, found_front, found_within}
use Rattle.lane_record.proofs.Lookups.{none_next, sealed_append}
use Rattle.lane_tables.specs.Planned.{IsFull, one_with, planned_bodies, planned_words, words_with}
use Rattle.lane_tables.specs.declared.rows.PlannedBody.{PlannedBody}
use Rattle.lane_tables.specs.Books.{BookState, HasAsked, HasMorePlans, HasNext, IsAskedRow, IsBook, IsRow, IsTakenRow}
use Rattle.lane_tables.specs.Books.{Row, TellsBodies, after_ask, after_took, as_asked, as_taken, with_changed_row, next_in}
use Rattle.lane_tables.specs.Books.{just_planned, words_of, with_changed_body, row_of, with_ask, with_plan, with_took}
use Rattle.lane_tables.proofs.ClientRows.{becomes, grown, row_changed, row_changed_other, row_planned, row_planned_other}
use Rattle.lane_tables.proofs.AskedRows.{asked_ask, asked_plan, asked_stay, asked_took, one_more_claim, same_count}
use Rattle.lane_tables.proofs.OneMore.{one_number, same_number}
use Rattle.lane_tables.proofs.PlannedBodies.{length-replaced, was_body}
use Rattle.lane_tables.proofs.TakenRows.{taken_ask, taken_plan, taken_seal, taken_took}

-- ---- what a row tells stays so

words_stay : (items : List Item) (x : Item) (client seq : ℕ) (words : List ℕ)
    → told_by_first plan_in client seq items ≡ Some words → told_by_first plan_in client seq (items ++ x ∷ []) ≡ Some words
words_stay items x client seq words is = found_front plan_in client seq items (x ∷ []) words is

tells_other : (items : List Item) (x : Item) (client : ℕ) (bodies : List PlannedBody) (asks : ℕ)
    → planned_count client (items ++ x ∷ []) ≡ planned_count client items → asked_count client (items ++ x ∷ []) ≡ asked_count client items
    → TellsBodies items client bodies asks → TellsBodies (items ++ x ∷ []) client bodies asks
tells_other items x client bodies asks plan ask is = record {
  planned_are = is.planned_are ∙ sym plan;
  asked_are = is.asked_are ∙ sym ask;
  no_more = is.no_more;
  words_are = λ seq body there. words_stay items x client seq body.words (is.words_are seq body there);
}

row_other : (items : List Item) (x : Item) (client : ℕ) (row : Option Row)
    → planned_count client (items ++ x ∷ []) ≡ planned_count client items → asked_count client (items ++ x ∷ []) ≡ asked_count client items
    → IsRow items client row → IsRow (items ++ x ∷ []) client row
row_other items x client None plan ask is = tells_other items x client [] 0 plan ask is
row_other items x client (Some r) plan ask is = tells_other items x client r.bodies r.asked plan ask is

-- ---- one more Plan

plan_for : (client seq other : ℕ) (body : List ℕ) (items : List Item)
    → planned_count other (items ++ plan_of client seq body ∷ []) ≡ planned_count other items + cond (client == other) 1 0
plan_for client seq other body items = one_number plan_in other items (plan_of client seq body)
    ∙ ap (λ (b : Bool). planned_count other items + cond b 1 0) (and-true (client == other))

plan_found : (client : ℕ) (body : List ℕ) (items : List Item) → Count plan_in items
    → told_by_first plan_in client (planned_count client items) (items ++ plan_of client (planned_count client items) body ∷ [])
    ≡ Some body
plan_found client body items count =
    let seq = planned_count client items in
    let none = none_next plan_in client seq items count (omega arith) in
    found_append plan_in client seq items (plan_of client seq body ∷ [])
    ∙ (ap (λ (o : Option (List ℕ)). option_or o (told_by_first plan_in client seq (plan_of client seq body ∷ []))) none
    ∙ (let same = eq-eqb client client refl in let number = eq-eqb seq seq refl in rw (same, number) refl))

-- the row of the client of a new Plan
tells_plan : (items : List Item) (client : ℕ) (body : List ℕ) (bodies : List PlannedBody) (asks : ℕ)
    → Count plan_in items → TellsBodies items client bodies asks
    → TellsBodies (items ++ plan_of client (planned_count client items) body ∷ []) client
    (bodies ++ just_planned body ∷ []) asks
tells_plan items client body bodies asks count is =
    let seq = planned_count client items in
    let x = plan_of client seq body in
    let one = plan_for client seq client body items in
    let own = eq-eqb client client refl in
    let plus : ◌≡◌ {A = ℕ} (cond (client == client) 1 0) 1 = rw own refl in
    let longer = length-append bodies (just_planned body ∷ []) in
    let before = is.planned_are in
    let most = is.no_more in
    let same = same_number ask_in client items x refl in
    record {
      planned_are = omega (arith, longer, one, plus, before);
      asked_are = is.asked_are ∙ sym same;
      no_more = omega (arith, most, longer);
      words_are = λ number b there. elim (get_split bodies (just_planned body) number b there) [
        | inl old ↦ words_stay items x client number b.words (is.words_are number b old)
        | inr new ↦ (let number_is : number ≡ seq = new.0 ∙ before in
            rw (number_is, new.1) (plan_found client body items count))
      ];
    }

tells_grown : (items : List Item) (client : ℕ) (body : List ℕ) (row : Option Row) → Count plan_in items
    → IsRow items client row
    → IsRow (items ++ plan_of client (planned_count client items) body ∷ []) client (Some (grown client body row))
tells_grown items client body None count is = tells_plan items client body [] 0 count is
tells_grown items client body (Some r) count is = tells_plan items client body r.bodies r.asked count is

rows_plan : (items : List Item) (rows : List Row) (client : ℕ) (body : List ℕ) → Count plan_in items
    → ((c : ℕ) → IsRow items c (row_of c rows))
    → (other : ℕ) → IsRow (items ++ plan_of client (planned_count client items) body ∷ []) other
    (row_of other (with_plan client body rows))
rows_plan items rows client body count are other = elim (eqb_tells client other) [
  | inl same ↦ subst (λ (c : ℕ). IsRow (items ++ plan_of client (planned_count client items) body ∷ []) c
      (row_of c (with_plan client body rows))) same.1
      (subst (IsRow (items ++ plan_of client (planned_count client items) body ∷ []) client)
      (sym (row_planned client body rows)) (tells_grown items client body (row_of client rows) count (are client)))
  | inr apart ↦
      let x = plan_of client (planned_count client items) body in
      let one = plan_for client (planned_count client items) other body items in
      let off : ◌≡◌ {A = ℕ} (cond (client == other) 1 0) 0 = rw apart.0 refl in
      let plan : planned_count other (items ++ x ∷ []) ≡ planned_count other items = omega (arith, one, off) in
      subst (IsRow (items ++ x ∷ []) other) (sym (row_planned_other client body other rows apart.0))
      (row_other items x other (row_of other rows) plan (same_number ask_in other items x refl) (are other))
]

-- ---- one more Ask

ask_for : (client seq other g : ℕ) (items : List Item)
    → asked_count other (items ++ ask_of client seq g ∷ []) ≡ asked_count other items + cond (client == other) 1 0
ask_for client seq other g items = one_number ask_in other items (ask_of client seq g)
    ∙ ap (λ (b : Bool). asked_count other items + cond b 1 0) (and-true (client == other))

-- a change of one body that leaves its words
tells_changed : (items : List Item) (client k : ℕ) (change : PlannedBody → PlannedBody)
    → ((b : PlannedBody) → (change b).words ≡ b.words) → (bodies : List PlannedBody) (asks : ℕ)
    → TellsBodies items client bodies asks → TellsBodies items client (with_changed_body k change bodies) asks
tells_changed items client k change keeps bodies asks is =
    let same = length-replaced k change bodies in
    let most = is.no_more in
    record {
      planned_are = same ∙ is.planned_are;
      asked_are = is.asked_are;
      no_more = omega (arith, most, same);
      words_are = λ n b there. (
          let w = was_body k change bodies n b there in
          let same_words : w.old.words ≡ b.words = elim w.is [
            | inl here ↦ sym (ap (λ (y : PlannedBody). y.words) here.1 ∙ keeps w.old)
            | inr apart ↦ sym (ap (λ (y : PlannedBody). y.words) apart.1)
          ] in
          is.words_are n w.old w.there ∙ ap (λ (words : List ℕ). Some words) same_words);
    }

tells_ask : (items : List Item) (client g : ℕ) (bodies : List PlannedBody) (asks : ℕ) → asks < length bodies
    → TellsBodies items client bodies asks
    → TellsBodies (items ++ ask_of client (asked_count client items) g ∷ []) client bodies (asks + 1)
tells_ask items client g bodies asks left is =
    let x = ask_of client (asked_count client items) g in
    let one = ask_for client (asked_count client items) client g items in
    let own = eq-eqb client client refl in
    let plus : ◌≡◌ {A = ℕ} (cond (client == client) 1 0) 1 = rw own refl in
    let before = is.asked_are in
    record {
      planned_are = is.planned_are ∙ sym (same_number plan_in client items x refl);
      asked_are = omega (arith, one, plus, before);
      no_more = omega (arith, left);
      words_are = λ n b there. words_stay items x client n b.words (is.words_are n b there);
    }

-- a client with a Plan that was not asked has a row with one
with_next : (items : List Item) (client : ℕ) (row : Option Row) → IsRow items client row
    → asked_count client items < planned_count client items → (r : Row) × (row ≡ Some r) × (r.asked < length r.bodies)
with_next items client None is left = (let a = is.planned_are in let b = is.asked_are in absurd (omega (arith, a, left)))
with_next items client (Some r) is left =
    (r, refl, (let a = is.planned_are in let b = is.asked_are in omega (arith, a, b, left)))

pub has_next : (items : List Item) (rows : List Row) (client : ℕ) → Count plan_in items
    → ((c : ℕ) → IsRow items c (row_of c rows)) → HasMorePlans client items → HasNext client rows
has_next items rows client count are more =
    let left = found_within plan_in client (asked_count client items) items more.body count more.there in
    let row = with_next items client (row_of client rows) (are client) left in
    record { row = row.0; there = row.1; left = row.2 }

tells_asked : (items : List Item) (client g ask : ℕ) (row : Option Row) (r : Row) → row ≡ Some r
    → r.asked < length r.bodies → IsRow items client row
    → IsRow (items ++ ask_of client (asked_count client items) g ∷ []) client
    (becomes (after_ask ask) row)
tells_asked items client g ask None r e left is = absurd cc
tells_asked items client g ask (Some q) r e left is =
    (let same : q ≡ r = cc in
    tells_changed (items ++ ask_of client (asked_count client items) g ∷ []) client q.asked (as_asked ask) (λ b. refl)
    q.bodies (q.asked + 1) (tells_ask items client g q.bodies q.asked
    (subst (λ (x : Row). x.asked < length x.bodies) (sym same) left) is))

rows_ask : (items : List Item) (rows : List Row) (client g ask : ℕ) → HasNext client rows
    → ((c : ℕ) → IsRow items c (row_of c rows))
    → (other : ℕ) → IsRow (items ++ ask_of client (asked_count client items) g ∷ []) other
    (row_of other (with_ask client ask rows))
rows_ask items rows client g ask next are other =
    elim (eqb_tells client other) [
      | inl same ↦ subst (λ (c : ℕ). IsRow (items ++ ask_of client (asked_count client items) g ∷ []) c
          (row_of c (with_ask client ask rows))) same.1
          (subst (IsRow (items ++ ask_of client (asked_count client items) g ∷ []) client)
          (sym (row_changed client (after_ask ask) rows (λ r. refl)))
          (tells_asked items client g ask (row_of client rows) next.row next.there next.left (are client)))
      | inr apart ↦
          let x = ask_of client (asked_count client items) g in
          let one = ask_for client (asked_count client items) other g items in
          let off : ◌≡◌ {A = ℕ} (cond (client == other) 1 0) 0 = rw apart.0 refl in
          let same : asked_count other (items ++ x ∷ []) ≡ asked_count other items = omega (arith, one, off) in
          subst (IsRow (items ++ x ∷ []) other)
          (sym (row_changed_other client (after_ask ask) other rows (λ r. refl) apart.0))
          (row_other items x other (row_of other rows) (same_number plan_in other items x refl) same (are other))
    ]

-- ---- one more Took

asked_row : (items : List Item) (client seq : ℕ) (row : Option Row) → IsRow items client row
    → seq < asked_count client items → (r : Row) × (row ≡ Some r) × (seq < r.asked)
asked_row items client seq None is below = (let a = is.asked_are in absurd (omega (arith, a, below)))
asked_row items client seq (Some r) is below = (r, refl, (let a = is.asked_are in omega (arith, a, below)))

row_few : (items : List Item) (client : ℕ) (row : Option Row) (r : Row) → row ≡ Some r → IsRow items client row
    → r.asked ≤ length r.bodies
row_few items client None r e is = absurd cc
row_few items client (Some q) r e is =
    (let same : q ≡ r = cc in subst (λ (x : Row). x.asked ≤ length x.bodies) same is.no_more)

pub has_asked : (items : List Item) (rows : List Row) (client seq : ℕ)
    → ((c : ℕ) → IsRow items c (row_of c rows)) → seq < asked_count client items → HasAsked client seq rows
has_asked items rows client seq are below =
    let row = asked_row items client seq (row_of client rows) (are client) below in
    record { row = row.0; there = row.1; is_asked = row.2 }

-- so there is such a body in its row
asked_there : (items : List Item) (rows : List Row) (client seq : ℕ)
    → (are : (c : ℕ) → IsRow items c (row_of c rows)) → (below : seq < asked_count client items)
    → seq < length (has_asked items rows client seq are below).row.bodies
asked_there items rows client seq are below =
    let h = has_asked items rows client seq are below in
    let few = row_few items client (row_of client rows) h.row h.there (are client) in
    let less = h.is_asked in
    omega (arith, few, less)

row_marked : (items : List Item) (client seq : ℕ) (row : Option Row) → IsRow items client row
    → IsRow items client (becomes (after_took seq) row)
row_marked items client seq None is = is
row_marked items client seq (Some r) is =
    tells_changed items client seq as_taken (λ b. refl) r.bodies r.asked is

rows_took : (items : List Item) (rows : List Row) (client seq : ℕ) (x : Item) → plan_in x.what ≡ None
    → ask_in x.what ≡ None → ((c : ℕ) → IsRow items c (row_of c rows))
    → (other : ℕ) → IsRow (items ++ x ∷ []) other (row_of other (with_took client seq rows))
rows_took items rows client seq x plan ask are other =
    row_other items x other (row_of other (with_took client seq rows)) (same_number plan_in other items x plan)
    (same_number ask_in other items x ask)
    (elim (eqb_tells client other) [
      | inl same ↦ subst (λ (c : ℕ). IsRow items c (row_of c (with_took client seq rows))) same.1
          (subst (IsRow items client) (sym (row_changed client (after_took seq) rows (λ r. refl)))
          (row_marked items client seq (row_of client rows) (are client)))
      | inr apart ↦ subst (IsRow items other)
          (sym (row_changed_other client (after_took seq) other rows (λ r. refl) apart.0)) (are other)
    ])

-- the row of a client with a next body has as many asked as the entries tell
next_asks : (items : List Item) (client : ℕ) (row : Option Row) (r : Row) → row ≡ Some r → IsRow items client row
    → r.asked ≡ asked_count client items
next_asks items client None r e is = absurd cc
next_asks items client (Some q) r e is =
    (let same : q ≡ r = cc in subst (λ (x : Row). x.asked ≡ asked_count client items) same is.asked_are)

-- ---- the other tables

pub bodies_push : (items : List Item) (x : Item)
    → planned_bodies (items ++ x ∷ []) ≡ planned_bodies items + one_with (plan_in x.what) 0
bodies_push [] x = elim (plan_in x.what) as (λ o. one_with o 0 ≡ 0 + one_with o 0) [ None ↦ refl | Some b ↦ refl ]
bodies_push (y ∷ ys) x = elim (plan_in y.what) as (λ o. one_with o (planned_bodies (ys ++ x ∷ []))
    ≡ one_with o (planned_bodies ys) + one_with (plan_in x.what) 0) [
      | None ↦ bodies_push ys x
      | Some b ↦ (let h = bodies_push ys x in omega (arith, h))
    ]

pub words_push : (items : List Item) (x : Item)
    → planned_words (items ++ x ∷ []) ≡ planned_words items + words_with (plan_in x.what) 0
words_push [] x = elim (plan_in x.what) as (λ o. words_with o 0 ≡ 0 + words_with o 0) [
  | None ↦ refl
  | Some b ↦ omega arith
]
words_push (y ∷ ys) x = elim (plan_in y.what) as (λ o. words_with o (planned_words (ys ++ x ∷ []))
    ≡ words_with o (planned_words ys) + words_with (plan_in x.what) 0) [
      | None ↦ words_push ys x
      | Some b ↦ (let h = words_push ys x in omega (arith, h))
    ]

or_false : (b : Bool) → (b || false) ≡ b
or_false true = refl
or_false false = refl

module _ (book : BookState) (rows : List Row) (asks bodies words : ℕ) (closed : Bool)
    (is : IsBook book rows asks bodies words closed) where
  -- an entry that is no Plan and no Ask
  book_other : (x : Item) (changed : List Row) (room : ℕ) → plan_in x.what ≡ None → ask_in x.what ≡ None
      → (sealed : Bool) → sealed ≡ is_sealed (book.items ++ x ∷ [])
      → (is_sealed (book.items ++ x ∷ []) ≡ false → 1 ≤ room)
      → ((c : ℕ) → IsRow (book.items ++ x ∷ []) c (row_of c changed))
      → ((c : ℕ) → IsAskedRow (book.items ++ x ∷ []) c (row_of c changed))
      → ((c : ℕ) → IsTakenRow (book.items ++ x ∷ []) c (row_of c changed))
      → IsBook (record { items = book.items ++ x ∷ []; room = room }) changed asks bodies words sealed
  book_other x changed room plan ask sealed sealed_is fits told numbered taken = record {
    plans_count = count_push plan_in book.items x is.plans_count
        (λ some. (let off : is_some (plan_in x.what) ≡ false = ap is_some plan in absurd cc));
    rows_are = told;
    asked_are = numbered;
    taken_are = taken;
    asks_are = is.asks_are ∙ sym (same_count book.items x ask);
    bodies_are = (let h = bodies_push book.items x in let none : one_with (plan_in x.what) 0 ≡ 0 =
        ap (λ (o : Option (List ℕ)). one_with o 0) plan in let b = is.bodies_are in omega (arith, h, none, b));
    words_are = (let h = words_push book.items x in let none : words_with (plan_in x.what) 0 ≡ 0 =
        ap (λ (o : Option (List ℕ)). words_with o 0) plan in let b = is.words_are in omega (arith, h, none, b));
    closed_is = sealed_is;
    few_bodies = is.few_bodies;
    few_words = is.few_words;
    seal_fits = fits;
  }

  pub book_took : (client seq : ℕ) (outcome : Outcome) (g room : ℕ) → seq < asked_count client book.items → 1 ≤ room
      → IsBook (record { items = book.items ++ took_of client seq outcome g ∷ []; room = room })
      (with_took client seq rows) asks bodies words closed
  book_took client seq outcome g room below one =
      let x = took_of client seq outcome g in
      book_other x (with_took client seq rows) room refl refl
      closed (is.closed_is ∙ sym (sealed_append book.items (x ∷ []) ∙ or_false (is_sealed book.items)))
      (λ _. one) (rows_took book.items rows client seq x refl refl is.rows_are)
      (asked_took book.items rows client seq x is.asked_are)
      (taken_took book.items rows client seq g outcome (has_asked book.items rows client seq is.rows_are below)
      (asked_there book.items rows client seq is.rows_are below) is.taken_are)

  pub book_seal : (room : ℕ)
      → IsBook (record { items = book.items ++ the_seal ∷ []; room = room }) rows asks bodies words true
  book_seal room =
      let sealed : is_sealed (book.items ++ the_seal ∷ []) ≡ true = sealed_append book.items (the_seal ∷ [])
      ∙ or-true (is_sealed book.items) in
      book_other the_seal rows room refl refl true (sym sealed) (λ open_still. absurd cc)
      (λ client. row_other book.items the_seal client (row_of client rows)
      (same_number plan_in client book.items the_seal refl) (same_number ask_in client book.items the_seal refl)
      (is.rows_are client))
      (asked_stay book.items rows the_seal is.asked_are) (taken_seal book.items rows is.taken_are)

  pub book_ask : (client g room : ℕ) → HasMorePlans client book.items → 1 ≤ room
      → IsBook (record { items = book.items ++ ask_of client (asked_count client book.items) g ∷ []; room = room })
      (with_ask client asks rows) (asks + 1) bodies words closed
  book_ask client g room more one =
      let x = ask_of client (asked_count client book.items) g in
      let next = has_next book.items rows client is.plans_count is.rows_are more in
      record {
        plans_count = count_push plan_in book.items x is.plans_count (λ some. absurd cc);
        rows_are = rows_ask book.items rows client g asks next is.rows_are;
        asked_are = asked_ask book.items rows client (asked_count client book.items) g asks is.asks_are next
            (next_asks book.items client (row_of client rows) next.row next.there (is.rows_are client)) is.asked_are;
        taken_are = taken_ask book.items rows client (asked_count client book.items) g asks is.taken_are;
        asks_are = (let h = one_more_claim book.items client (asked_count client book.items) g in let a = is.asks_are in
            omega (arith, h, a));
        bodies_are = (let h = bodies_push book.items x in let b = is.bodies_are in omega (arith, h, b));
        words_are = (let h = words_push book.items x in let b = is.words_are in omega (arith, h, b));
        closed_is = is.closed_is ∙ sym (sealed_append book.items (x ∷ []) ∙ or_false (is_sealed book.items));
        few_bodies = is.few_bodies;
        few_words = is.few_words;
        seal_fits = λ _. one;
      }

  pub book_plan : (client : ℕ) (body : List ℕ) (more more_words room : ℕ)
      → ¬ IsFull book.items (length body) (reply_room body) → 1 ≤ room
      → more ≡ bodies + 1 → more_words ≡ words + (length body + reply_room body)
      → IsBook (record { items = book.items ++ plan_of client (planned_count client book.items) body ∷ []; room = room })
      (with_plan client body rows) asks more more_words closed
  book_plan client body more more_words room few one more_is words_is =
      let x = plan_of client (planned_count client book.items) body in
      let b = is.bodies_are in
      let w = is.words_are in
      record {
        plans_count = count_push plan_in book.items x is.plans_count (λ _. refl);
        rows_are = rows_plan book.items rows client body is.plans_count is.rows_are;
        asked_are = asked_plan book.items rows client (planned_count client book.items) body is.asked_are;
        taken_are = taken_plan book.items rows client (planned_count client book.items) body is.taken_are;
        asks_are = is.asks_are ∙ sym (same_count book.items x refl);
        bodies_are = (let h = bodies_push book.items x in omega (arith, h, b, more_is));
        words_are = (let h = words_push book.items x in omega (arith, h, w, words_is));
        closed_is = is.closed_is ∙ sym (sealed_append book.items (x ∷ []) ∙ or_false (is_sealed book.items));
        few_bodies = elim (cases_lt (planned_bodies book.items) 200000) [
          | inl less ↦ omega (arith, less, b, more_is)
          | inr not_less ↦ absurd (few (inl not_less))
        ];
        few_words = elim (cases_lt 33554432 (planned_words book.items + length body + reply_room body)) [
          | inl less ↦ absurd (few (inr less))
          | inr not_less ↦ omega (arith, not_less, w, words_is)
        ];
        seal_fits = λ _. one;
      }

-- ---- what is looked up

no_body : (bodies : List PlannedBody) (k : ℕ) → words_of (slice_get bodies k) ≡ None → length bodies ≤ k
no_body [] k is = omega arith
no_body (x ∷ xs) zero is = absurd cc
no_body (x ∷ xs) (suc k) is = let h = no_body xs k is in omega (arith, h)

some_body : (o : Option PlannedBody) (words : List ℕ) → words_of o ≡ Some words
    → (body : PlannedBody) × (o ≡ Some body) × (body.words ≡ words)
some_body None words is = absurd cc
some_body (Some body) words is = (body, refl, cc)

pub next_some : (items : List Item) (client : ℕ) (words : List ℕ) (r : Row) → IsRow items client (Some r)
    → next_in r ≡ Some words → told_by_first plan_in client (asked_count client items) items ≡ Some words
next_some items client words r is there =
    let b = some_body (slice_get r.bodies r.asked) words there in
    ap (λ (seq : ℕ). told_by_first plan_in client seq items) (sym is.asked_are)
    ∙ (is.words_are r.asked b.0 b.1 ∙ ap (λ (ws : List ℕ). Some ws) b.2)

pub next_none : (items : List Item) (client : ℕ) (r : Row) → IsRow items client (Some r) → next_in r ≡ None
    → asked_count client items ≡ planned_count client items
next_none items client r is there =
    let past = no_body r.bodies r.asked there in
    let a = is.asked_are in
    let p = is.planned_are in
    let most = is.no_more in
    omega (arith, past, a, p, most)

pub no_row_none : (items : List Item) (client : ℕ) → IsRow items client None
    → asked_count client items ≡ planned_count client items
no_row_none items client is = sym is.asked_are ∙ is.planned_are

-- more room
pub book_reserved : (book : BookState) (rows : List Row) (asks bodies words : ℕ) (closed : Bool) (more : BookState)
    → more.items ≡ book.items → book.room ≤ more.room → IsBook book rows asks bodies words closed
    → IsBook more rows asks bodies words closed
book_reserved book rows asks bodies words closed more same fits is =
    subst (λ (items : List Item). IsBook (record { items = items; room = more.room }) rows asks bodies words closed)
    (sym same) (record {
      plans_count = is.plans_count;
      rows_are = is.rows_are;
      asked_are = is.asked_are;
      taken_are = is.taken_are;
      asks_are = is.asks_are;
      bodies_are = is.bodies_are;
      words_are = is.words_are;
      closed_is = is.closed_is;
      few_bodies = is.few_bodies;
      few_words = is.few_words;
      seal_fits = λ e. (let h = is.seal_fits e in omega (arith, h, fits));
    })

pub book_asked : (book more : BookState) (rows changed : List Row) (asks bodies words : ℕ) (closed : Bool)
    (client seq g : ℕ) → IsBook book rows asks bodies words closed → seq ≡ asked_count client book.items
    → HasMorePlans client book.items → more.items ≡ book.items ++ ask_of client seq g ∷ [] → 1 ≤ more.room
    → changed ≡ with_ask client asks rows → IsBook more changed (asks + 1) bodies words closed
book_asked book more rows changed asks bodies words closed client seq g is number plans i fits r =
    let seq_item = λ (n : ℕ). book.items ++ ask_of client n g ∷ [] in
    subst (λ (xs : List Item). IsBook (record { items = xs; room = more.room }) changed (asks + 1) bodies words closed)
    (sym (i ∙ ap seq_item number))
    (subst (λ (rs : List Row). IsBook (record { items = seq_item (asked_count client book.items); room = more.room }) rs
    (asks + 1) bodies words closed) (sym r)
    (book_ask book rows asks bodies words closed is client g more.room plans fits))

pub book_planned : (book more : BookState) (rows changed : List Row) (asks bodies words count total : ℕ) (closed : Bool)
    (client seq : ℕ) (body : List ℕ) → IsBook book rows asks bodies words closed
    → seq ≡ planned_count client book.items → ¬ IsFull book.items (length body) (reply_room body)
    → more.items ≡ book.items ++ plan_of client seq body ∷ [] → 1 ≤ more.room
    → changed ≡ with_plan client body rows → count ≡ bodies + 1 → total ≡ words + (length body + reply_room body)
    → IsBook more changed asks count total closed
book_planned book more rows changed asks bodies words count total closed client seq body is number few i fits r c t =
    let seq_item = λ (n : ℕ). book.items ++ plan_of client n body ∷ [] in
    subst (λ (xs : List Item). IsBook (record { items = xs; room = more.room }) changed asks count total closed)
    (sym (i ∙ ap seq_item number))
    (subst (λ (rs : List Row). IsBook (record { items = seq_item (planned_count client book.items); room = more.room })
    rs asks count total closed) (sym r)
    (book_plan book rows asks bodies words closed is client body count total more.room few fits c t))

pub book_taken : (book more : BookState) (rows changed : List Row) (asks bodies words : ℕ) (closed : Bool)
    (client seq : ℕ) (outcome : Outcome) (g : ℕ) → IsBook book rows asks bodies words closed
    → seq < asked_count client book.items → more.items ≡ book.items ++ took_of client seq outcome g ∷ []
    → 1 ≤ more.room → changed ≡ with_took client seq rows → IsBook more changed asks bodies words closed
book_taken book more rows changed asks bodies words closed client seq outcome g is below i fits r =
    subst (λ (xs : List Item). IsBook (record { items = xs; room = more.room }) changed asks bodies words closed) (sym i)
    (subst (λ (rs : List Row). IsBook (record {
      items = book.items ++ took_of client seq outcome g ∷ [];
      room = more.room;
    }) rs asks bodies words closed) (sym r)
    (book_took book rows asks bodies words closed is client seq outcome g more.room below fits))

pub book_sealed : (book more : BookState) (rows : List Row) (asks bodies words : ℕ) (closed : Bool)
    → IsBook book rows asks bodies words closed → more.items ≡ book.items ++ the_seal ∷ []
    → IsBook more rows asks bodies words true
book_sealed book more rows asks bodies words closed is i =
    subst (λ (xs : List Item). IsBook (record { items = xs; room = more.room }) rows asks bodies words true) (sym i)
    (book_seal book rows asks bodies words closed is more.room)
