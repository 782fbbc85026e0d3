-- What the clients of a session ask of the lanes of a hub, one for each live board. Profile.
use Rattle.std.specs.Prelude.{◌≡◌, ◌==◌, ℕ, ◌+◌, ◌<◌, ◌^◌, if◌then◌else◌, List, [], ◌∷◌, ◌++◌, map}
use Rattle.std.specs.Prelude.{option_and_then, unwrap_or}
use Rattle.std.specs.List.{AllByRecursion, range_with_len, slice_get}
use Rattle.client_threads.specs.Clients.{OnLanesFrom, counts_on}
use Rattle.client_threads.specs.declared.plan.Dispatch.{Dispatch}
use Rattle.client_threads.specs.declared.plan.ClientPlan.{ClientPlan}
use Rattle.script_steps.specs.declared.operation.Step.{Step}
use Rattle.script_steps.specs.declared.operation.Step.TheVariants.{Do, Denied, Dispatch as EndOfDispatch}
use Rattle.script_plans.specs.declared.greeting.Greeting.TheVariants.{Live}
use Rattle.script_plans.specs.Plan.{ClientBodies, plans_on}

-- these are the plans of the clients' scripts on a live board
pub record ArePlansOnBoard (scripts : List (List Step)) (planned : List ClientBodies) : Type 0 where
  pub position : ℕ
  pub payload : ℕ
  pub plans : planned ≡ plans_on position (Live payload) scripts

-- each dispatch of a plan has fewer than 2^32 bodies
abbrev pub HasFewBodies : ClientBodies → Type 0
HasFewBodies plan = AllByRecursion (λ (count : ℕ). count < 2 ^ 32) plan.counts

-- how many bodies each dispatch of each client has
abbrev pub counts_by_client : List ClientBodies → List (List ℕ)
counts_by_client planned = map (λ (p : ClientBodies). p.counts) planned

-- The plans of the clients ask of each lane, the first of which has this number, dispatch by dispatch as many bodies as
-- the clients have planned there.
abbrev pub AskAllFrom : ℕ → List ClientPlan → List (List ClientBodies) → Type 0
AskAllFrom lane plans boards =
    OnLanesFrom lane (λ at planned. map (counts_on at) plans ≡ counts_by_client planned) boards

-- ---- how they come about

-- how many dispatches a step ends
abbrev pub ends_in : Step → ℕ
ends_in (Do op) = 0
ends_in (Denied rule op) = 0
ends_in EndOfDispatch = 1

-- how many bodies a client, from 0, has in a dispatch on a board: none where it has no such dispatch
abbrev pub count_at : ℕ → ℕ → List ClientBodies → ℕ
count_at client dispatch planned =
    unwrap_or (option_and_then (λ (p : ClientBodies). slice_get p.counts dispatch) (slice_get planned client)) 0

-- a lane with a number of bodies, unless there are none
abbrev pub pair_of : ℕ → ℕ → List (ℕ × ℕ)
pair_of lane count = if count == 0 then [] else (lane, count) ∷ []

abbrev pub pairs_from : ℕ → List ℕ → List (ℕ × ℕ)
pairs_from lane [] = []
pairs_from lane (count ∷ counts) = pair_of lane count ++ pairs_from (lane + 1) counts

-- a dispatch of a client, from 0, over all boards
abbrev pub dispatch_over : List (List ClientBodies) → ℕ → ℕ → Dispatch
dispatch_over boards client dispatch = record { asks = pairs_from 0 (map (count_at client dispatch) boards) }

-- its plan of so many dispatches
abbrev pub plan_over : List (List ClientBodies) → ℕ → ℕ → ClientPlan
plan_over boards client many = record {
  client = client + 1;
  dispatches = map (dispatch_over boards client) (range_with_len 0 many);
}

-- the plans of the clients from this one on, who have so many dispatches
abbrev pub plans_over : List (List ClientBodies) → ℕ → List ℕ → List ClientPlan
plans_over boards client [] = []
plans_over boards client (many ∷ later) = plan_over boards client many ∷ plans_over boards (client + 1) later
