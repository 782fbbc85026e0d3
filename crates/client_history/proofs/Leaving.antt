-- What connections leave in the record of a lane.
use Rattle.std.proofs.Common.{◌≡◌, ℕ, suc, ◌+◌, ◌≤◌, cond, List, [], ◌∷◌, length, map, Option, Some, None}
use Rattle.std.proofs.Common.{refl, sym, ap, subst, ◌∙◌, arith}
use Rattle.std.specs.Prelude.{not, is_some}
use Rattle.std.specs.List.{AllByRecursion, Contains, cons_option, filter, filter_map}
use Rattle.ipb_base.proofs.AllLemmas.{all-map}
use Rattle.turn_pass.specs.Record.{Record, made_by}
use Rattle.turn_pass.specs.Pass.{Joined, Knowledge}
use Rattle.lane_record.specs.declared.item.Item.{Item}
use Rattle.lane_record.specs.declared.item.What.{What}
use Rattle.lane_record.specs.declared.item.What.TheVariants.{Plan, Seal, Ask, Took}
use Rattle.lane_record.specs.Items.{plan_in}
use Rattle.lane_record.specs.Coding.{Head, item_from, record_of, as_recorded}
use Rattle.lane_record.specs.Dispatches.{Action, Asked, NumberedAction, Planned, Sealed, Taken, action_of}
use Rattle.lane_record.specs.Dispatches.{dispatches_from, entries_by, outcomes_in_order, numbered_action}
use Rattle.lane_record.specs.Submissions.{Submission, submissions_from}
use Rattle.lane_record.proofs.Coding.{read_item}
use Rattle.hub_multiplexer.specs.Ends.{Ends}
use Rattle.board_history.specs.Records.{HasLeft, HaveLeft, IsRecordOf, beside_plans, planned_in}
use Rattle.client_history.specs.Clients.{came_with}
use Rattle.client_history.proofs.Handed.{StandsIn, handed, made_recorded, numbers_of, of_contained}
use Rattle.client_history.specs.Connections.{AllSubmitted, WereServedOn, submitted_bodies, dispatches_of}

-- ---- from what entries say

abbrev body_in : Action → Option (List ℕ)
body_in (Planned body) = Some body
body_in Sealed = None
body_in Asked = None
body_in (Taken outcome) = None

body_said : (what : What) → plan_in what ≡ body_in (action_of what)
body_said (Plan body) = refl
body_said Seal = refl
body_said (Ask n) = refl
body_said (Took o n) = refl

abbrev bodies_in : List NumberedAction → List (List ℕ)
bodies_in actions = filter_map (λ (a : NumberedAction). body_in a.action) actions

abbrev others_in : List NumberedAction → List NumberedAction
others_in actions = filter (λ (a : NumberedAction). not (is_some (body_in a.action))) actions

planned_said : (xs : List Item) → filter_map planned_in xs ≡ bodies_in (map numbered_action xs)
planned_said [] = refl
planned_said (x ∷ xs) =
    ap (λ (o : Option (List ℕ)). cons_option o (filter_map planned_in xs)) (body_said x.what)
    ∙ ap (cons_option (body_in (action_of x.what))) (planned_said xs)

beside_said : (xs : List Item) → map numbered_action (beside_plans xs) ≡ others_in (map numbered_action xs)
beside_said [] = refl
beside_said (x ∷ xs) =
    let later = beside_said xs in
    ap (λ (o : Option (List ℕ)). map numbered_action (cond (not (is_some o)) (x ∷ beside_plans xs) (beside_plans xs)))
    (body_said x.what)
    ∙ (elim (body_in (action_of x.what)) as
    (λ o. map numbered_action (cond (not (is_some o)) (x ∷ beside_plans xs) (beside_plans xs))
    ≡ cond (not (is_some o)) (numbered_action x ∷ others_in (map numbered_action xs))
    (others_in (map numbered_action xs))) [
      | None ↦ ap (λ (as' : List NumberedAction). numbered_action x ∷ as') later
      | Some body ↦ later
    ])

-- ---- a connection's submissions

bodies_of_submissions : (seq : ℕ) (submissions : List Submission)
    → bodies_in (submissions_from seq submissions) ≡ submitted_bodies submissions
bodies_of_submissions seq [] = refl
bodies_of_submissions seq (s ∷ ss) = ap (λ (bs : List (List ℕ)). s.body ∷ bs) (bodies_of_submissions (seq + 1) ss)

submitted_dispatches : (seq : ℕ) (submissions : List Submission)
    → others_in (submissions_from seq submissions) ≡ dispatches_from seq (dispatches_of submissions)
submitted_dispatches seq [] = refl
submitted_dispatches seq (s ∷ ss) =
    ap (λ (as' : List NumberedAction).
    record { seq = seq; action = Asked } ∷ record { seq = seq; action = Taken s.outcome } ∷ as')
    (submitted_dispatches (seq + 1) ss)

one_each : (submissions : List Submission)
    → length (outcomes_in_order (dispatches_of submissions)) ≡ length (submitted_bodies submissions)
one_each [] = refl
one_each (s ∷ ss) = ap suc (one_each ss)

left_by_one : (client : ℕ) (submissions : List Submission) (items : List Item)
    → map numbered_action (entries_by client items) ≡ submissions_from 0 submissions
    → HasLeft client (submitted_bodies submissions) (dispatches_of submissions) items
left_by_one client submissions items did = record {
  planned = planned_said (entries_by client items) ∙ ap bodies_in did ∙ bodies_of_submissions 0 submissions;
  did = beside_said (entries_by client items) ∙ ap others_in did ∙ submitted_dispatches 0 submissions;
  count = one_each submissions;
}

-- ---- all connections

read_again : (xs : List Item) → filter_map item_from (map as_recorded xs) ≡ xs
read_again [] = refl
read_again (x ∷ xs) =
    ap (λ (o : Option Item). cons_option o (filter_map item_from (map as_recorded xs))) (read_item x)
    ∙ ap (λ (ys : List Item). x ∷ ys) (read_again xs)

pub own_entries : (client : ℕ) (more : List Item) (pass : Joined) → pass.number ≡ client → StandsIn more pass
    → filter_map item_from pass.mine ≡ entries_by client more
own_entries client more pass number stands =
    ap (filter_map item_from) (stands ∙ ap (λ (n : ℕ). made_by n (map as_recorded more)) number
    ∙ made_recorded client more)
    ∙ read_again (entries_by client more)

all_left : (client : ℕ) (connections : List (List Submission)) (passes : List Joined) (more : List Item)
    → AllSubmitted client connections passes → AllByRecursion (StandsIn more) passes
    → HaveLeft client (map submitted_bodies connections) (map dispatches_of connections) more
all_left client [] [] more did stand = tt
all_left client [] (j ∷ js) more did stand = absurd did
all_left client (s ∷ ss) [] more did stand = absurd did
all_left client (s ∷ ss) (j ∷ js) more did stand = (
  left_by_one client s more
      (sym (ap (map numbered_action) (own_entries client more j did.0.number stand.0)) ∙ did.0.actions),
  all_left (client + 1) ss js more did.1 stand.1,
)

numbers_within : (client many : ℕ) (connections : List (List Submission)) (passes : List Joined)
    → AllSubmitted client connections passes → client + length connections ≤ many + 1
    → AllByRecursion (λ (n : ℕ). n ≤ many) (numbers_of passes)
numbers_within client many [] [] did le = tt
numbers_within client many [] (j ∷ js) did le = absurd did
numbers_within client many (s ∷ ss) [] did le = absurd did
numbers_within client many (s ∷ ss) (j ∷ js) did le =
    let number = did.0.number in
    (omega (arith, le, number), numbers_within (client + 1) many ss js did.1 (omega (arith, le)))

mapped_length : (connections : List (List Submission)) → length (map submitted_bodies connections) ≡ length connections
mapped_length [] = refl
mapped_length (s ∷ ss) = ap suc (mapped_length ss)

pub left_by_connections : (connections : List (List Submission)) (head head_now : Head) (items : List Item)
    (after : Knowledge) (final : Record) → WereServedOn connections (came_with head []) after → Ends after final
    → final ≡ record_of head_now items
    → IsRecordOf (map submitted_bodies connections) (map dispatches_of connections) items
left_by_connections connections head head_now items after final served ends is =
    let back = handed head head_now [] items served.passes after final served.took_in ends is in
    let more = back.0 in
    let h = back.1 in
    let many = mapped_length connections in
    let within = numbers_within 1 (length (map submitted_bodies connections)) connections served.passes served.each
    (omega (arith, many)) in
    subst (IsRecordOf (map submitted_bodies connections) (map dispatches_of connections)) (sym h.grown) (record {
      each = all_left 1 connections served.passes more served.each h.stand;
      nobody_else = all-map (λ (x : Item). Contains (numbers_of served.passes) x.client)
          (λ (x : Item). x.client ≤ length (map submitted_bodies connections)) more
          (λ x there. of_contained (λ (n : ℕ). n ≤ length (map submitted_bodies connections)) (numbers_of served.passes)
          x.client within there) h.by_passes;
    })
