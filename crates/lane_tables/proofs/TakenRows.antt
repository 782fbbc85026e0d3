-- What rows tell of the bodies that were taken, one more entry at a time.
use Rattle.std.proofs.Common.{◌≡◌, ◌≢◌, ◌+◌, ◌<◌, ◌==◌, ◌&&◌, ℕ, Bool, true, false, if◌then◌else◌, List, []}
use Rattle.std.proofs.Common.{◌∷◌, ◌++◌, length, Option, Some, None, IfSome, IfNone, is_some, inl, inr, refl, sym, ap}
use Rattle.std.proofs.Common.{subst, ◌∙◌}
use Rattle.std.proofs.Common.{arith}
use mathlib.Core.Logic.{dite}
use native.Mathlib.Decide.{ℕ_discrete}
use Rattle.std.proofs.lemmas.Bool.{eq-eqb}
use Rattle.std.proofs.lemmas.Bool.Decides.{eqb_tells}
use Rattle.std.proofs.Math.Bool.{and-false}
use Rattle.std.specs.Option.{option_or}
use Rattle.lane_record.specs.declared.outcome.Outcome.{Outcome}
use Rattle.lane_record.specs.declared.item.Item.{Item}
use Rattle.lane_record.specs.Items.{asked_count, told_by_first, is_of, took_in}
use Rattle.lane_record.specs.NextEntry.{ask_of, plan_of, the_seal, took_of}
use Rattle.lane_record.proofs.Lookups.{found_append, found_other}
use Rattle.lane_tables.specs.declared.rows.PlannedBody.{PlannedBody}
use Rattle.lane_tables.specs.Books.{HasAsked, IsTakenRow, Row, TellsTaken, after_ask, after_took, as_asked}
use Rattle.lane_tables.specs.Books.{as_taken, is_marked, just_planned, with_changed_body, row_of, with_ask, with_plan, with_took}
use Rattle.lane_tables.specs.Taken.{HasTakenAll, IsOldest, IsTakenIn}
use Rattle.lane_tables.proofs.ClientRows.{becomes, grown, row_changed, row_changed_other, row_planned, row_planned_other}
use Rattle.lane_tables.proofs.PlannedBodies.{marked_kept, marked_other, marked_push, marked_taken}

-- ---- an entry that takes nothing from the client

tells_same : (items more : List Item) (client : ℕ) (bodies : List PlannedBody) (asks : ℕ)
    → ((n : ℕ) → told_by_first took_in client n more ≡ told_by_first took_in client n items)
    → TellsTaken items client bodies asks → TellsTaken more client bodies asks
tells_same items more client bodies asks same is = record {
  marks = λ n. ap is_some (same n) ∙ is.marks n;
  later = λ n most. same n ∙ is.later n most;
}

row_same : (items more : List Item) (client : ℕ) (row : Option Row)
    → ((n : ℕ) → told_by_first took_in client n more ≡ told_by_first took_in client n items)
    → IsTakenRow items client row → IsTakenRow more client row
row_same items more client None same is = tells_same items more client [] 0 same is
row_same items more client (Some r) same is = tells_same items more client r.bodies r.asked same is

pub taken_seal : (items : List Item) (rows : List Row) → ((c : ℕ) → IsTakenRow items c (row_of c rows))
    → (other : ℕ) → IsTakenRow (items ++ the_seal ∷ []) other (row_of other rows)
taken_seal items rows are other = row_same items (items ++ the_seal ∷ []) other (row_of other rows)
    (λ n. found_other took_in other n items the_seal refl) (are other)

tells_grown : (items : List Item) (client : ℕ) (words : List ℕ) (bodies : List PlannedBody) (asks : ℕ)
    → TellsTaken items client bodies asks → TellsTaken items client (bodies ++ just_planned words ∷ []) asks
tells_grown items client words bodies asks is = record {
  marks = λ n. is.marks n ∙ sym (marked_push bodies words n);
  later = is.later;
}

row_grown : (items : List Item) (client : ℕ) (words : List ℕ) (row : Option Row) → IsTakenRow items client row
    → IsTakenRow items client (Some (grown client words row))
row_grown items client words None is = tells_grown items client words [] 0 is
row_grown items client words (Some r) is = tells_grown items client words r.bodies r.asked is

pub taken_plan : (items : List Item) (rows : List Row) (client seq : ℕ) (body : List ℕ)
    → ((c : ℕ) → IsTakenRow items c (row_of c rows))
    → (other : ℕ) → IsTakenRow (items ++ plan_of client seq body ∷ []) other
    (row_of other (with_plan client body rows))
taken_plan items rows client seq body are other =
    let x = plan_of client seq body in
    row_same items (items ++ x ∷ []) other (row_of other (with_plan client body rows))
    (λ n. found_other took_in other n items x refl)
    (elim (eqb_tells client other) [
      | inl same ↦ subst (λ (c : ℕ). IsTakenRow items c (row_of c (with_plan client body rows))) same.1
          (subst (IsTakenRow items client) (sym (row_planned client body rows))
          (row_grown items client body (row_of client rows) (are client)))
      | inr apart ↦ subst (IsTakenRow items other) (sym (row_planned_other client body other rows apart.0)) (are other)
    ])

tells_asked : (items : List Item) (client ask : ℕ) (bodies : List PlannedBody) (asks : ℕ)
    → TellsTaken items client bodies asks
    → TellsTaken items client (with_changed_body asks (as_asked ask) bodies) (asks + 1)
tells_asked items client ask bodies asks is = record {
  marks = λ n. is.marks n ∙ sym (marked_kept asks (as_asked ask) (λ b. refl) bodies n);
  later = λ n most. is.later n (omega (arith, most));
}

row_asked : (items : List Item) (client ask : ℕ) (row : Option Row) → IsTakenRow items client row
    → IsTakenRow items client (becomes (after_ask ask) row)
row_asked items client ask None is = is
row_asked items client ask (Some r) is = tells_asked items client ask r.bodies r.asked is

pub taken_ask : (items : List Item) (rows : List Row) (client seq g ask : ℕ)
    → ((c : ℕ) → IsTakenRow items c (row_of c rows))
    → (other : ℕ) → IsTakenRow (items ++ ask_of client seq g ∷ []) other (row_of other (with_ask client ask rows))
taken_ask items rows client seq g ask are other =
    let x = ask_of client seq g in
    row_same items (items ++ x ∷ []) other (row_of other (with_ask client ask rows))
    (λ n. found_other took_in other n items x refl)
    (elim (eqb_tells client other) [
      | inl same ↦ subst (λ (c : ℕ). IsTakenRow items c (row_of c (with_ask client ask rows))) same.1
          (subst (IsTakenRow items client) (sym (row_changed client (after_ask ask) rows (λ r. refl)))
          (row_asked items client ask (row_of client rows) (are client)))
      | inr apart ↦ subst (IsTakenRow items other)
          (sym (row_changed_other client (after_ask ask) other rows (λ r. refl) apart.0)) (are other)
    ])

-- ---- the oldest body that was not taken

none_is : {A : Type 0} (o : Option A) → is_some o ≡ false → o ≡ None
none_is None e = refl
none_is (Some x) e = absurd cc

pub is_oldest : (items : List Item) (client most : ℕ) (bodies : List PlannedBody) (oldest : Option ℕ)
    → most ≡ asked_count client items → TellsTaken items client bodies most
    → IfSome oldest (λ seq. seq < most) → IfSome oldest (λ seq. is_marked bodies seq ≡ false)
    → IfSome oldest (λ seq. (n : ℕ) → n < seq → is_marked bodies n ≡ true)
    → IfSome oldest (λ seq. IsOldest items client seq)
is_oldest items client most bodies None asks tells below untaken before = tt
is_oldest items client most bodies (Some seq) asks tells below untaken before = record {
  is_asked = subst (λ (n : ℕ). seq < n) asks below;
  untaken = none_is (told_by_first took_in client seq items) (tells.marks seq ∙ untaken);
  before = λ n less. tells.marks n ∙ before n less;
}

pub all_taken : (items : List Item) (client most : ℕ) (bodies : List PlannedBody) (oldest : Option ℕ)
    → most ≡ asked_count client items → TellsTaken items client bodies most
    → IfNone oldest ((n : ℕ) → n < most → is_marked bodies n ≡ true)
    → IfNone oldest (HasTakenAll items client)
all_taken items client most bodies None asks tells all =
    subst (λ (m : ℕ). (n : ℕ) → n < m → IsTakenIn items client n) asks (λ n less. tells.marks n ∙ all n less)
all_taken items client most bodies (Some seq) asks tells all = tt

-- ---- one more Took

or_none : {A : Type 0} (o : Option A) → option_or o None ≡ o
or_none None = refl
or_none (Some x) = refl

-- an entry of another client or number changes no look-up
found_apart : (client seq : ℕ) (items : List Item) (x : Item) → is_of client seq x ≡ false
    → told_by_first took_in client seq (items ++ x ∷ []) ≡ told_by_first took_in client seq items
found_apart client seq items x apart = found_append took_in client seq items (x ∷ [])
    ∙ (ap (λ (b : Bool). option_or (told_by_first took_in client seq items)
    (option_or (if b then took_in x.what else None) None)) apart ∙ or_none (told_by_first took_in client seq items))

pub or_right : {A : Type 0} (o p : Option A) → is_some p ≡ true → is_some (option_or o p) ≡ true
or_right None p e = e
or_right (Some x) p e = refl

now_taken : (client seq g : ℕ) (outcome : Outcome) (items : List Item)
    → IsTakenIn (items ++ took_of client seq outcome g ∷ []) client seq
now_taken client seq g outcome items =
    let x = took_of client seq outcome g in
    let same = eq-eqb client client refl in
    let number = eq-eqb seq seq refl in
    let here : is_some (told_by_first took_in client seq (x ∷ [])) ≡ true = rw (same, number) refl in
    ap is_some (found_append took_in client seq items (x ∷ []))
    ∙ or_right (told_by_first took_in client seq items) (told_by_first took_in client seq (x ∷ [])) here

number_apart : (client seq n : ℕ) (outcome : Outcome) (g : ℕ) → (n ≡ seq → ⊥)
    → is_of client n (took_of client seq outcome g) ≡ false
number_apart client seq n outcome g apart =
    let differs : (seq == n) ≡ false = elim (eqb_tells seq n) [
      | inl same ↦ absurd (apart (sym same.1))
      | inr other ↦ other.0
    ] in
    ap (λ (b : Bool). (client == client) && b) differs ∙ and-false (client == client)

-- the body of this number was taken
tells_took : (items : List Item) (client seq g : ℕ) (outcome : Outcome) (bodies : List PlannedBody) (asks : ℕ)
    → seq < asks → seq < length bodies → TellsTaken items client bodies asks
    → TellsTaken (items ++ took_of client seq outcome g ∷ []) client (with_changed_body seq as_taken bodies) asks
tells_took items client seq g outcome bodies asks below within is =
    let x = took_of client seq outcome g in
    record {
      marks = λ n. dite (ℕ_discrete n seq)
          (λ (e : n ≡ seq). subst (λ (m : ℕ). IsTakenIn (items ++ x ∷ []) client m) (sym e)
          (now_taken client seq g outcome items)
          ∙ sym (ap (is_marked (with_changed_body seq as_taken bodies)) e ∙ marked_taken seq bodies within))
          (λ (ne : n ≢ seq). ap is_some (found_apart client n items x (number_apart client seq n outcome g ne))
          ∙ (is.marks n ∙ sym (marked_other seq as_taken bodies n ne)));
      later = λ n most. found_apart client n items x
          (number_apart client seq n outcome g (λ (e : n ≡ seq). omega (arith, e, most, below))) ∙ is.later n most;
    }

row_took : (items : List Item) (client seq g : ℕ) (outcome : Outcome) (row : Option Row) (r : Row) → row ≡ Some r
    → seq < r.asked → seq < length r.bodies → IsTakenRow items client row
    → IsTakenRow (items ++ took_of client seq outcome g ∷ []) client (becomes (after_took seq) row)
row_took items client seq g outcome None r e below within is = absurd cc
row_took items client seq g outcome (Some q) r e below within is =
    (let same : r ≡ q = cc in
    tells_took items client seq g outcome q.bodies q.asked (subst (λ (x : Row). seq < x.asked) same below)
    (subst (λ (x : Row). seq < length x.bodies) same within) is)

pub taken_took : (items : List Item) (rows : List Row) (client seq g : ℕ) (outcome : Outcome)
    → (asked : HasAsked client seq rows) → seq < length asked.row.bodies
    → ((c : ℕ) → IsTakenRow items c (row_of c rows))
    → (other : ℕ) → IsTakenRow (items ++ took_of client seq outcome g ∷ []) other
    (row_of other (with_took client seq rows))
taken_took items rows client seq g outcome asked within are other =
    let x = took_of client seq outcome g in
    elim (eqb_tells client other) [
      | inl same ↦ subst (λ (c : ℕ). IsTakenRow (items ++ x ∷ []) c (row_of c (with_took client seq rows))) same.1
          (subst (IsTakenRow (items ++ x ∷ []) client) (sym (row_changed client (after_took seq) rows (λ r. refl)))
          (row_took items client seq g outcome (row_of client rows) asked.row asked.there asked.is_asked within
          (are client)))
      | inr apart ↦ subst (IsTakenRow (items ++ x ∷ []) other)
          (sym (row_changed_other client (after_took seq) other rows (λ r. refl) apart.0))
          (row_same items (items ++ x ∷ []) other (row_of other rows)
          (λ n. found_apart other n items x (ap (λ (b : Bool). b && (seq == n)) apart.0)) (are other))
    ]
