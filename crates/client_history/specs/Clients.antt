-- What the clients of a hub leave in the record of one lane. Profile.
use Rattle.std.specs.Prelude.{◌≡◌, ℕ, List, [], ◌∷◌, ◌++◌, length, map, sum, Some}
use Rattle.std.specs.List.{slice_get}
use Rattle.turn_pass.specs.Pass.{Knowledge, first_knowledge}
use Rattle.lane_record.specs.declared.outcome.Outcome.{Outcome}
use Rattle.lane_record.specs.declared.item.Item.{Item}
use Rattle.lane_record.specs.Coding.{Head, record_of}
use Rattle.lane_record.specs.Dispatches.{all_plans_from, outcomes_in_order}
use Rattle.lane_record.specs.NextEntry.{the_seal}
use Rattle.client_threads.specs.declared.plan.ClientPlan.{ClientPlan}
use Rattle.client_threads.specs.declared.result.ClientResult.{ClientResult}
use Rattle.client_threads.specs.Clients.{counts_on}
use Rattle.board_history.specs.Records.{IsClientsRecord}

-- the entries with which a lane comes to a hub: the Plans of all clients, from client 1 on, and the Seal
abbrev pub sealed_plans : List (List (List ℕ)) → List Item
sealed_plans bodies = all_plans_from 1 bodies ++ the_seal ∷ []

-- what a master knows of a lane that came with this record
abbrev pub came_with : Head → List Item → Knowledge
came_with head items = first_knowledge (record_of head items)

-- each client's plan asks of the lane as many bodies as the client planned there
abbrev pub AskAll : ℕ → List ClientPlan → List (List (List ℕ)) → Type 0
AskAll lane plans bodies =
    map (λ (plan : ClientPlan). sum (counts_on lane plan)) plans ≡ map (λ (bs : List (List ℕ)). length bs) bodies

-- What clients left in the record of a lane, who planned these bodies there, each of whom did its plan.
pub record LeftByClients (lane : ℕ) (plans : List ClientPlan) (results : List ClientResult)
    (bodies : List (List (List ℕ))) (items : List Item) : Type 0 where
  -- what became of each client's bodies, dispatch by dispatch
  pub dispatches : List (List (List Outcome))
  -- there are as many in each dispatch as its plan says
  pub cut : map (λ (d : List (List Outcome)). map (λ (os : List Outcome). length os) d) dispatches
      ≡ map (counts_on lane) plans
  -- its result shows them
  pub outcomes : map (λ (result : ClientResult). slice_get result.lanes lane) results
      ≡ map (λ (d : List (List Outcome)). Some (outcomes_in_order d)) dispatches
  pub left : IsClientsRecord bodies dispatches items
