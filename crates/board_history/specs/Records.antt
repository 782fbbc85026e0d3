-- What clients leave in the record of a lane. Profile.
use Rattle.std.specs.Prelude.{◌≡◌, ℕ, ◌+◌, ◌≤◌, Bool, false, not, is_some, List, [], ◌∷◌, ◌++◌, length, map}
use Rattle.std.specs.Prelude.{Option, Some, None}
use Rattle.std.specs.List.{AllByRecursion, filter, filter_map}
use Rattle.ipb_base.specs.Lists.{IsPrefix}
use Rattle.lane_record.specs.declared.outcome.Outcome.{Outcome}
use Rattle.lane_record.specs.declared.item.Item.{Item}
use Rattle.lane_record.specs.Items.{plan_in}
use Rattle.lane_record.specs.NextEntry.{the_seal}
use Rattle.lane_record.specs.Dispatches.{actions_by, dispatches_from, entries_by, outcomes_in_order, numbered_action}
use Rattle.lane_record.specs.Dispatches.{all_plans_from}

-- ---- what each client planned, and what it did beside that

-- the bodies that a client planned, in order
abbrev pub planned_in : Item → Option (List ℕ)
planned_in x = plan_in x.what

abbrev pub bodies_planned : ℕ → List Item → List (List ℕ)
bodies_planned client items = filter_map planned_in (entries_by client items)

-- the entries but the Plans, and those of a client, in order
abbrev pub beside_plans : List Item → List Item
beside_plans items = filter (λ (x : Item). not (is_some (planned_in x))) items

abbrev pub entries_beside_plans : ℕ → List Item → List Item
entries_beside_plans client items = beside_plans (entries_by client items)

-- ---- the record of some clients

-- What a client left in a record: it planned these bodies, in order, wherever its Plans stand among its other entries;
-- beside them it asked and took dispatch by dispatch; and there is an outcome for each body.
pub record HasLeft (client : ℕ) (bodies : List (List ℕ)) (dispatches : List (List Outcome)) (items : List Item)
    : Type 0 where
  pub planned : bodies_planned client items ≡ bodies
  pub did : map numbered_action (entries_beside_plans client items) ≡ dispatches_from 0 dispatches
  pub count : length (outcomes_in_order dispatches) ≡ length bodies

-- so of each client from a number on
abbrev pub HaveLeft : ℕ → List (List (List ℕ)) → List (List (List Outcome)) → List Item → Type 0
HaveLeft client [] [] items = Unit {0}
HaveLeft client (bodies ∷ later) (dispatches ∷ others) items =
    HasLeft client bodies dispatches items × HaveLeft (client + 1) later others items
HaveLeft client bodies outcomes items = ⊥

-- The record of clients who planned these bodies and took these outcomes, dispatch by dispatch. Nobody else left an
-- entry but the Seal, which is of client 0.
pub record IsRecordOf (bodies : List (List (List ℕ))) (outcomes : List (List (List Outcome))) (items : List Item)
    : Type 0 where
  pub each : HaveLeft 1 bodies outcomes items
  pub nobody_else : AllByRecursion (λ (x : Item). x.client ≤ length bodies) items

-- what became of a body is of this kind
abbrev pub has_become : (Outcome → Bool) → Option Outcome → Bool
has_become kind None = false
has_become kind (Some outcome) = kind outcome

-- ---- the record of clients who planned all their bodies before the Seal

-- each client from a number on asked and took dispatch by dispatch
abbrev pub DidDispatches : ℕ → List (List (List Outcome)) → List Item → Type 0
DidDispatches client [] items = Unit {0}
DidDispatches client (dispatches ∷ later) items =
    (actions_by client items ≡ dispatches_from 0 dispatches) × DidDispatches (client + 1) later items

-- the entry is of one of so many clients
abbrev pub IsOfClient : ℕ → Item → Type 0
IsOfClient many x = (1 ≤ x.client) × (x.client ≤ many)

-- The record that clients leave who planned these bodies and took these outcomes, dispatch by dispatch: it opens with
-- their Plans and the Seal, and behind these each client did its dispatches, and nobody else anything.
pub record IsClientsRecord (bodies : List (List (List ℕ))) (outcomes : List (List (List Outcome)))
    (items : List Item) : Type 0 where
  pub shape : map (λ (dispatches : List (List Outcome)). length (outcomes_in_order dispatches)) outcomes ≡ map length bodies
  pub past : List Item
  pub opens : items ≡ all_plans_from 1 bodies ++ the_seal ∷ past
  pub each : DidDispatches 1 outcomes past
  pub nobody_else : AllByRecursion (IsOfClient (length bodies)) past

-- ---- a part of it

-- of each client from a number on, the bodies that it planned are the first of these
abbrev pub ArePlansOf : ℕ → List (List (List ℕ)) → List Item → Type 0
ArePlansOf client [] items = Unit {0}
ArePlansOf client (bodies ∷ later) items =
    IsPrefix (bodies_planned client items) bodies × ArePlansOf (client + 1) later items

-- Clients who have these bodies to plan left this record so far, and nobody else an entry but the Seal.
pub record IsPartlyPlanned (bodies : List (List (List ℕ))) (items : List Item) : Type 0 where
  pub each : ArePlansOf 1 bodies items
  pub nobody_else : AllByRecursion (λ (x : Item). x.client ≤ length bodies) items
