-- How the record that clients leave comes about.
use Rattle.std.proofs.Common.{◌≡◌, ℕ, suc, ◌+◌, ◌≤◌, false, ◌==◌, List, [], ◌∷◌, ◌++◌, length}
use Rattle.std.proofs.Common.{Option, None, refl, sym, ap, ◌∙◌, subst, arith, append_assoc, append-nil}
use Rattle.std.specs.List.{AllByRecursion, cons_option, filter_map}
use Rattle.std.proofs.lemmas.Bool.Decides.{nat_tests}
use Rattle.std.proofs.lemmas.List.Elements.{filter_map-append}
use Rattle.ipb_base.specs.Lists.{IsPrefix}
use Rattle.ipb_base.proofs.AllLemmas.{AllByRecursion-append, front_of_all}
use Rattle.world_model.proofs.Lists.{either}
use Rattle.lane_record.specs.declared.item.Item.{Item}
use Rattle.lane_record.specs.Items.{plan_in}
use Rattle.lane_record.specs.NextEntry.{plan_of}
use Rattle.lane_record.specs.Dispatches.{entries_by}
use Rattle.lane_record.specs.Dispatches.{plans_from, all_plans_from}
use Rattle.board_history.specs.Records.{planned_in, bodies_planned, ArePlansOf}
use Rattle.board_history.specs.Records.{IsPartlyPlanned}
use Rattle.board_history.proofs.Own.{by_append}
use Rattle.board_history.proofs.Opening.{no_plans, own_opening}
use Rattle.board_history.proofs.Merges.{plans_planned, opening_at_most}

-- ---- one more entry

pub one_plan : (client seq : ℕ) (bodies : List (List ℕ)) (body : List ℕ)
    → plans_from client seq (bodies ++ body ∷ [])
    ≡ plans_from client seq bodies ++ plan_of client (seq + length bodies) body ∷ []
one_plan client seq [] body =
    let same : seq ≡ seq + 0 = omega arith in ap (λ (n : ℕ). plan_of client n body ∷ []) same
one_plan client seq (b ∷ bs) body =
    let on : seq + 1 + length bs ≡ seq + suc (length bs) = omega arith in
    ap (λ (xs : List Item). plan_of client seq b ∷ xs)
    (one_plan client (seq + 1) bs body
    ∙ ap (λ (n : ℕ). plans_from client (seq + 1) bs ++ plan_of client n body ∷ []) on)

-- ---- partly planned

client_planned : (client : ℕ) (front : List Item) (bodies : List (List ℕ)) (later : List (List (List ℕ)))
    → 1 ≤ client → entries_by client front ≡ []
    → bodies_planned client (front ++ all_plans_from client (bodies ∷ later)) ≡ bodies
client_planned client front bodies later low none =
    let own : entries_by client (front ++ all_plans_from client (bodies ∷ later)) ≡ plans_from client 0 bodies =
    by_append client front (all_plans_from client (bodies ∷ later))
    ∙ ap (λ (xs : List Item). xs ++ entries_by client (all_plans_from client (bodies ∷ later))) none
    ∙ own_opening client bodies later low in
    ap (filter_map planned_in) (own ∙ sym (append-nil (plans_from client 0 bodies)))
    ∙ plans_planned client 0 bodies [] ∙ append-nil bodies

all_planned : (client : ℕ) (front items : List Item) (bodies : List (List (List ℕ))) → 1 ≤ client
    → ((other : ℕ) → client ≤ other → entries_by other front ≡ []) → items ≡ front ++ all_plans_from client bodies
    → ArePlansOf client bodies items
all_planned client front items [] low none e = tt
all_planned client front items (bs ∷ later) low none e =
    let plans = plans_from client 0 bs in
    let mine = ap (bodies_planned client) e ∙ client_planned client front bs later low (none client (omega arith)) in
    let next : (other : ℕ) → client + 1 ≤ other → entries_by other (front ++ plans) ≡ [] =
    λ other h.
    let apart : (client == other) ≡ false = grind (arith, nat_tests) in
    by_append other front plans
    ∙ ap (λ (xs : List Item). xs ++ entries_by other plans) (none other (omega (arith, h)))
    ∙ no_plans other client 0 bs apart in (
      ([], sym mine ∙ sym (append-nil (bodies_planned client items))),
      all_planned (client + 1) (front ++ plans) items later (omega arith) next
          (e ∙ sym (append_assoc front plans (all_plans_from (client + 1) later))),
    )

pub plans_are_partly : (bodies : List (List (List ℕ))) → IsPartlyPlanned bodies (all_plans_from 1 bodies)
plans_are_partly bodies = record {
  each = all_planned 1 [] (all_plans_from 1 bodies) bodies (omega arith) (λ other le. refl) refl;
  nobody_else = opening_at_most (length bodies) 1 bodies (omega arith);
}

-- a front of a front is a front
front_front : (xs ys zs : List (List ℕ)) → IsPrefix xs ys → IsPrefix ys zs → IsPrefix xs zs
front_front xs ys zs one two =
    (one.0 ++ two.0, two.1 ∙ ap (λ (ws : List (List ℕ)). ws ++ two.0) one.1 ∙ append_assoc xs one.0 two.0)

planned_front : (client : ℕ) (front items : List Item) → IsPrefix front items
    → IsPrefix (bodies_planned client front) (bodies_planned client items)
planned_front client front items is = (
  bodies_planned client is.0,
  ap (bodies_planned client) is.1 ∙ ap (filter_map planned_in) (by_append client front is.0)
      ∙ filter_map-append planned_in (entries_by client front) (entries_by client is.0),
)

fronts_planned : (client : ℕ) (bodies : List (List (List ℕ))) (front items : List Item) → IsPrefix front items
    → ArePlansOf client bodies items → ArePlansOf client bodies front
fronts_planned client [] front items is plans = tt
fronts_planned client (bs ∷ later) front items is plans = (
  front_front (bodies_planned client front) (bodies_planned client items) bs (planned_front client front items is)
      plans.0,
  fronts_planned (client + 1) later front items is plans.1,
)

abbrev pub IsAtMost : ℕ → Item → Type 0
IsAtMost many x = x.client ≤ many

pub front_partly : (bodies : List (List (List ℕ))) (front items : List Item) → IsPrefix front items
    → IsPartlyPlanned bodies items → IsPartlyPlanned bodies front
front_partly bodies front items is planned = record {
  each = fronts_planned 1 bodies front items is planned.each;
  nobody_else = front_of_all (IsAtMost (length bodies)) front is.0
      (subst (AllByRecursion (IsAtMost (length bodies))) is.1 planned.nobody_else);
}

-- an entry that plans nothing
one_unplanned : (client : ℕ) (x : Item) → plan_in x.what ≡ None → bodies_planned client (x ∷ []) ≡ []
one_unplanned client x none = either (λ (r : List Item). filter_map planned_in r ≡ []) (x.client == client) (x ∷ []) []
    (λ _. ap (λ (o : Option (List ℕ)). cons_option o []) none) (λ _. refl)

more_planned : (client : ℕ) (bodies : List (List (List ℕ))) (items : List Item) (x : Item) → plan_in x.what ≡ None
    → ArePlansOf client bodies items → ArePlansOf client bodies (items ++ x ∷ [])
more_planned client [] items x none plans = tt
more_planned client (bs ∷ later) items x none plans =
    let same : bodies_planned client (items ++ x ∷ []) ≡ bodies_planned client items =
    ap (filter_map planned_in) (by_append client items (x ∷ []))
    ∙ filter_map-append planned_in (entries_by client items) (entries_by client (x ∷ []))
    ∙ ap (λ (xs : List (List ℕ)). bodies_planned client items ++ xs) (one_unplanned client x none)
    ∙ append-nil (bodies_planned client items) in (
      subst (λ (xs : List (List ℕ)). IsPrefix xs bs) (sym same) plans.0,
      more_planned (client + 1) later items x none plans.1,
    )

pub more_partly : (bodies : List (List (List ℕ))) (items : List Item) (x : Item) → plan_in x.what ≡ None
    → x.client ≤ length bodies → IsPartlyPlanned bodies items → IsPartlyPlanned bodies (items ++ x ∷ [])
more_partly bodies items x none le planned = record {
  each = more_planned 1 bodies items x none planned.each;
  nobody_else = AllByRecursion-append (IsAtMost (length bodies)) items (x ∷ []) planned.nobody_else (le, tt);
}
