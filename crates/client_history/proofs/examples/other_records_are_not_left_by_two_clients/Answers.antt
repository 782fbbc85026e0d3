use Rattle.std.proofs.Common.{◌≡◌, ℕ, List, [], ◌∷◌, ◌++◌, length, map, drop, Some, sym, ap, subst, ◌∙◌}
use Rattle.std.proofs.Common.{append-nil}
use Rattle.lane_record.specs.declared.outcome.Outcome.{Outcome}
use Rattle.lane_record.specs.declared.item.Item.{Item}
use Rattle.lane_record.specs.Dispatches.{Action, Asked, NumberedAction, Taken, outcomes_in_order}
use Rattle.board_history.specs.Records.{DidDispatches}
use Rattle.client_history.specs.Clients.{LeftByClients, sealed_plans}
use Rattle.client_history.specs.ClientExamples.{client_1_alone, side_by_side, two_bodies, two_plans, two_results}
use Rattle.client_history.proofs.examples.other_records_are_not_left_by_two_clients.Goals as goal

-- the dispatches of two clients who asked one body each, which became what they show
shown_is : (one other : Outcome) (dispatches : List (List (List Outcome)))
    → map (λ (d : List (List Outcome)). map (λ (os : List Outcome). length os) d) dispatches
    ≡ (1 ∷ []) ∷ (1 ∷ []) ∷ []
    → Some (one ∷ []) ∷ Some (other ∷ []) ∷ [] ≡ map (λ (d : List (List Outcome)). Some (outcomes_in_order d)) dispatches
    → dispatches ≡ ((one ∷ []) ∷ []) ∷ ((other ∷ []) ∷ []) ∷ []
shown_is one other [] cut shown = absurd cc
shown_is one other (d ∷ []) cut shown = absurd cc
shown_is one other ([] ∷ (e ∷ ds)) cut shown = absurd cc
shown_is one other (d ∷ ([] ∷ ds)) cut shown = absurd cc
shown_is one other (d ∷ (e ∷ (f ∷ ds))) cut shown = absurd cc
shown_is one other ((x ∷ (y ∷ d)) ∷ (e ∷ ds)) cut shown = absurd cc
shown_is one other (d ∷ ((x ∷ (y ∷ e)) ∷ ds)) cut shown = absurd cc
shown_is one other ((x ∷ []) ∷ ((y ∷ []) ∷ [])) cut shown =
    let first : one ∷ [] ≡ x ++ [] = cc in
    let second : other ∷ [] ≡ y ++ [] = cc in
    let x_is : x ≡ one ∷ [] = sym (append-nil x) ∙ sym first in
    let y_is : y ≡ other ∷ [] = sym (append-nil y) ∙ sym second in
    λ i. (x_is i ∷ []) ∷ ((y_is i ∷ []) ∷ [])

past_is : (a b : List ℕ) (xs ys : List Item)
    → sealed_plans (two_bodies a b) ++ xs ≡ sealed_plans (two_bodies a b) ++ ys → xs ≡ ys
past_is a b xs ys e = ap (drop 3) e

-- what each of the two did, behind what the lane came with
did_is : (a b : List ℕ) (one other : Outcome) (past : List Item)
    → LeftByClients 0 two_plans (two_results one other) (two_bodies a b) (sealed_plans (two_bodies a b) ++ past)
    → DidDispatches 1 (((one ∷ []) ∷ []) ∷ ((other ∷ []) ∷ []) ∷ []) past
did_is a b one other past left =
    subst (DidDispatches 1 (((one ∷ []) ∷ []) ∷ ((other ∷ []) ∷ []) ∷ []))
    (sym (past_is a b past left.left.past left.left.opens))
    (subst (λ (ds : List (List (List Outcome))). DidDispatches 1 ds left.left.past)
    (shown_is one other left.dispatches left.cut left.outcomes) left.left.each)

abbrev act : Action → NumberedAction
act action = record { seq = 0; action = action }

one_taken : (one other : Outcome) → act Asked ∷ act (Taken one) ∷ [] ≡ act Asked ∷ act (Taken other) ∷ []
    → one ≡ other
one_taken one other e =
    let last : act (Taken one) ≡ act (Taken other) = cc in
    let same : Taken one ≡ Taken other = ap (λ (x : NumberedAction). x.action) last in
    cc

pub returns-clause-exchanged : goal.returns-clause-exchanged
returns-clause-exchanged c = λ a b one other apart left.
    let did = did_is a b other one (side_by_side one other) left in
    apart (one_taken one other did.0)

pub returns-clause-left_out : goal.returns-clause-left_out
returns-clause-left_out c = λ a b one other left.
    let did = did_is a b one other (client_1_alone one) left in
    let mine = did.1.0 in
    absurd cc
