-- A record that opens with the Plans of all clients and the Seal, behind which each does its dispatches, is a record of
-- these clients.
use Rattle.std.proofs.Common.{◌≡◌, ℕ, ◌+◌, ◌≤◌, false, ◌==◌, List, [], ◌∷◌, ◌++◌, length, map}
use Rattle.std.proofs.Common.{refl, sym, ap, ◌∙◌, subst, arith, append_assoc, append-nil}
use Rattle.std.specs.List.{AllByRecursion, filter_map}
use Rattle.std.proofs.lemmas.Bool.Decides.{nat_tests}
use Rattle.ipb_base.proofs.AllLemmas.{AllByRecursion-append, all-map}
use Rattle.world_model.proofs.Lists.{either}
use Rattle.lane_record.specs.declared.outcome.Outcome.{Outcome}
use Rattle.lane_record.specs.declared.item.Item.{Item}
use Rattle.lane_record.specs.Items.{plan_in}
use Rattle.lane_record.specs.NextEntry.{the_seal}
use Rattle.lane_record.specs.Dispatches.{all_plans_from, dispatches_from, entries_by, numbered_action, plans_from}
use Rattle.board_history.specs.Records.{DidDispatches, HasLeft, HaveLeft, IsClientsRecord, IsOfClient, IsRecordOf}
use Rattle.board_history.specs.Records.{beside_plans, planned_in}
use Rattle.board_history.proofs.Own.{all_by, by_append}
use Rattle.board_history.proofs.Rans.{rans_in}
use Rattle.board_history.proofs.Lookups.{IsNot, rans_are_no_plans}
use Rattle.board_history.proofs.Opening.{no_plans, own_opening, shape_of}
use Rattle.board_history.proofs.Beside.{beside_none, none_of_plans}
use Rattle.board_history.proofs.Merges.{IsAtMost, none_planned, opening_at_most, plans_planned}

-- the Seal is of no client
no_seal : (client : ℕ) (past : List Item) → 1 ≤ client → entries_by client (the_seal ∷ past) ≡ entries_by client past
no_seal client past low = either (λ (r : List Item). r ≡ entries_by client past) (0 == client)
    (the_seal ∷ entries_by client past) (entries_by client past) (λ e. absurd (grind (arith, nat_tests))) (λ _. refl)

did_behind_seal : (client : ℕ) (outcomes : List (List (List Outcome))) (past : List Item) → 1 ≤ client
    → DidDispatches client outcomes past → DidDispatches client outcomes (the_seal ∷ past)
did_behind_seal client [] past low did = tt
did_behind_seal client (os ∷ others) past low did = (
  ap (map numbered_action) (no_seal client past low) ∙ did.0,
  did_behind_seal (client + 1) others past (omega arith) did.1,
)

-- its Plans, and behind them its dispatches
left_by : (client : ℕ) (bodies : List (List ℕ)) (dispatches : List (List Outcome)) (items past : List Item)
    → entries_by client items ≡ plans_from client 0 bodies ++ entries_by client past
    → map numbered_action (entries_by client past) ≡ dispatches_from 0 dispatches
    → shape_of dispatches ≡ length bodies → HasLeft client bodies dispatches items
left_by client bodies dispatches items past own did count =
    let mine = entries_by client past in
    let ran = rans_in client 0 dispatches mine (all_by client past) did in
    let none : AllByRecursion (IsNot plan_in) mine =
    subst (AllByRecursion (IsNot plan_in)) (sym ran.items) (rans_are_no_plans client 0 ran.rans) in
    record {
      planned = ap (filter_map planned_in) own ∙ plans_planned client 0 bodies mine
          ∙ ap (λ (xs : List (List ℕ)). bodies ++ xs) (none_planned mine none) ∙ append-nil bodies;
      did = ap (map numbered_action) (ap beside_plans own ∙ none_of_plans client 0 bodies mine ∙ beside_none mine none)
          ∙ did;
      count = count;
    }

all_left : (front : List Item) (client : ℕ) (bodies : List (List (List ℕ))) (outcomes : List (List (List Outcome)))
    (past items : List Item) → 1 ≤ client → ((other : ℕ) → client ≤ other → entries_by other front ≡ [])
    → items ≡ front ++ (all_plans_from client bodies ++ past) → map shape_of outcomes ≡ map length bodies
    → DidDispatches client outcomes past → HaveLeft client bodies outcomes items
all_left front client [] [] past items low none parts shape did = tt
all_left front client [] (os ∷ others) past items low none parts shape did = absurd cc
all_left front client (bs ∷ later) [] past items low none parts shape did = absurd cc
all_left front client (bs ∷ later) (os ∷ others) past items low none parts shape did =
    let plans = plans_from client 0 bs in
    let rest = all_plans_from (client + 1) later in
    let own : entries_by client items ≡ plans ++ entries_by client past =
    ap (entries_by client) parts
    ∙ by_append client front (all_plans_from client (bs ∷ later) ++ past)
    ∙ ap (λ (xs : List Item). xs ++ entries_by client (all_plans_from client (bs ∷ later) ++ past))
    (none client (omega arith))
    ∙ by_append client (all_plans_from client (bs ∷ later)) past
    ∙ ap (λ (xs : List Item). xs ++ entries_by client past) (own_opening client bs later low) in
    let none_next : (other : ℕ) → client + 1 ≤ other → entries_by other (front ++ plans) ≡ [] =
    λ other h.
    let apart : (client == other) ≡ false = grind (arith, nat_tests) in
    by_append other front plans
    ∙ ap (λ (xs : List Item). xs ++ entries_by other plans) (none other (omega arith))
    ∙ no_plans other client 0 bs apart in
    let parts_next : items ≡ (front ++ plans) ++ (rest ++ past) =
    parts ∙ ap (λ (xs : List Item). front ++ xs) (append_assoc plans rest past)
    ∙ sym (append_assoc front plans (rest ++ past)) in
    let heads : shape_of os ≡ length bs = cc in (
      left_by client bs os items past own did.0 heads,
      all_left (front ++ plans) (client + 1) later others past items (omega arith) none_next parts_next (cc) did.1,
    )

pub is_record_of : (bodies : List (List (List ℕ))) (outcomes : List (List (List Outcome))) (items : List Item)
    → IsClientsRecord bodies outcomes items → IsRecordOf bodies outcomes items
is_record_of bodies outcomes items is = record {
  each = all_left [] 1 bodies outcomes (the_seal ∷ is.past) items (omega arith) (λ other h. refl) is.opens is.shape
      (did_behind_seal 1 outcomes is.past (omega arith) is.each);
  nobody_else = subst (AllByRecursion (IsAtMost (length bodies))) (sym is.opens)
      (AllByRecursion-append (IsAtMost (length bodies)) (all_plans_from 1 bodies) (the_seal ∷ is.past)
      (opening_at_most (length bodies) 1 bodies (omega arith)) (
        omega arith,
        all-map (IsOfClient (length bodies)) (IsAtMost (length bodies)) is.past (λ x of. of.1) is.nobody_else,
      ));
}
