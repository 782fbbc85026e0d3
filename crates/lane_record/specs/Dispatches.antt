-- What clients do on a lane, as its record tells it. Profile.
use Rattle.std.specs.Prelude.{ℕ, zero, suc, ◌+◌, ◌==◌, List, [], ◌∷◌, ◌++◌, length, map}
use Rattle.std.specs.List.{filter, flat_map}
use Rattle.lane_record.specs.declared.outcome.Outcome.{Outcome}
use Rattle.lane_record.specs.declared.item.Item.{Item}
use Rattle.lane_record.specs.declared.item.What.{What}
use Rattle.lane_record.specs.declared.item.What.TheVariants.{Plan, Seal, Ask, Took}
use Rattle.lane_record.specs.NextEntry.{plan_of}

-- ---- what each client did

-- what an entry says was done, the number of give-ups left out
pub data Action : Type 0 where
  Planned : List ℕ → Action
  Sealed : Action
  Asked : Action
  Taken : Outcome → Action

abbrev pub action_of : What → Action
action_of (Plan body) = Planned body
action_of Seal = Sealed
action_of (Ask give_ups) = Asked
action_of (Took outcome give_ups) = Taken outcome

-- an action, and the number of the client's body that it is of
pub record NumberedAction : Type 0 where
  pub seq : ℕ
  pub action : Action

abbrev pub numbered_action : Item → NumberedAction
numbered_action x = record { seq = x.seq; action = action_of x.what }

-- the entries of one client, in order, and what they say
abbrev pub entries_by : ℕ → List Item → List Item
entries_by client items = filter (λ (x : Item). x.client == client) items

abbrev pub actions_by : ℕ → List Item → List NumberedAction
actions_by client items = map numbered_action (entries_by client items)

-- ---- dispatch by dispatch

-- what became of the bodies of a client's dispatches, in order
abbrev pub outcomes_in_order : List (List Outcome) → List Outcome
outcomes_in_order dispatches = flat_map (λ outcomes. outcomes) dispatches

-- so many Asks from a number on
abbrev pub asks_from : ℕ → ℕ → List NumberedAction
asks_from seq zero = []
asks_from seq (suc many) = record { seq = seq; action = Asked } ∷ asks_from (seq + 1) many

-- the Tooks of these outcomes from a number on
abbrev pub tooks_from : ℕ → List Outcome → List NumberedAction
tooks_from seq [] = []
tooks_from seq (outcome ∷ outcomes) = record { seq = seq; action = Taken outcome } ∷ tooks_from (seq + 1) outcomes

-- A client asks for all bodies of a dispatch, and then takes all that became of them, before the next dispatch.
abbrev pub dispatches_from : ℕ → List (List Outcome) → List NumberedAction
dispatches_from seq [] = []
dispatches_from seq (outcomes ∷ later) =
    asks_from seq (length outcomes) ++ (tooks_from seq outcomes ++ dispatches_from (seq + length outcomes) later)

-- ---- the bodies that clients plan

-- the Plans of a client's bodies from a number on
abbrev pub plans_from : ℕ → ℕ → List (List ℕ) → List Item
plans_from client seq [] = []
plans_from client seq (body ∷ bodies) = plan_of client seq body ∷ plans_from client (seq + 1) bodies

-- the Plans of the clients from a number on, client by client
abbrev pub all_plans_from : ℕ → List (List (List ℕ)) → List Item
all_plans_from client [] = []
all_plans_from client (bodies ∷ later) = plans_from client 0 bodies ++ all_plans_from (client + 1) later
