-- What clients ask of the lanes of a hub, and what they leave there, whatever the schedule of their threads was.
-- Profile.
use Rattle.std.specs.Prelude.{◌≡◌, ◌==◌, ℕ, ◌+◌, ◌≤◌, ◌<◌, if◌then◌else◌, List, [], ◌∷◌, ◌++◌, length, map, sum, ⊤}
use Rattle.std.specs.Prelude.{Option, Some, None, option_and_then}
use Rattle.std.specs.List.{AllByRecursion, Contains, slice_get}
use Rattle.ipb_base.specs.Lists.{IsPrefix}
use Rattle.turn_pass.specs.Record.{made_by}
use Rattle.turn_pass.specs.Pass.{Joined, Knowledge}
use Rattle.lane_record.specs.declared.outcome.Outcome.{Outcome}
use Rattle.lane_record.specs.declared.item.Item.{Item}
use Rattle.lane_record.specs.Items.{plan_in}
use Rattle.lane_record.specs.NextEntry.{took_of}
use Rattle.lane_record.specs.Coding.{as_recorded}
use Rattle.lane_record.specs.Dispatches.{dispatches_from, outcomes_in_order, numbered_action, plans_from}
use Rattle.hub_multiplexer.specs.Seats.{MasterState}
use Rattle.client_threads.specs.declared.plan.Dispatch.{Dispatch}
use Rattle.client_threads.specs.declared.plan.ClientPlan.{ClientPlan}
use Rattle.client_threads.specs.declared.result.ClientResult.{ClientResult}

-- ---- plans

-- how many bodies these pairs of a lane and a number ask of a lane
abbrev pub bodies_on : ℕ → List (ℕ × ℕ) → ℕ
bodies_on lane [] = 0
bodies_on lane (ask ∷ asks) = if ask.0 == lane then ask.1 + bodies_on lane asks else bodies_on lane asks

-- how many bodies each dispatch of a client asks of a lane
abbrev pub counts_on : ℕ → ClientPlan → List ℕ
counts_on lane plan = map (λ (d : Dispatch). bodies_on lane d.asks) plan.dispatches

-- the pairs are of lanes below this number, by rising lane from this one on
abbrev pub AreRisingFrom : ℕ → ℕ → List (ℕ × ℕ) → Type 0
AreRisingFrom least lanes [] = ⊤
AreRisingFrom least lanes (ask ∷ asks) =
    (least ≤ ask.0) × (ask.0 < lanes) × AreRisingFrom (ask.0 + 1) lanes asks

-- a plan for a hub of so many lanes
abbrev pub IsPlanFor : ℕ → ClientPlan → Type 0
IsPlanFor lanes plan = AllByRecursion (λ (d : Dispatch). AreRisingFrom 0 lanes d.asks) plan.dispatches

-- the plans are of the clients from this one on, in order
abbrev pub AreOfClientsFrom : ℕ → List ClientPlan → Type 0
AreOfClientsFrom client [] = ⊤
AreOfClientsFrom client (plan ∷ plans) = (plan.client ≡ client) × AreOfClientsFrom (client + 1) plans

-- In the record with which a lane came to the hub, the client has Plans of at least so many bodies, and no other entry.
pub record HoldsPlans (client many : ℕ) (k : Knowledge) : Type 0 where
  pub bodies : List (List ℕ)
  pub enough : many ≤ length bodies
  pub entries : made_by client k.opening.entries ≡ map as_recorded (plans_from client 0 bodies)

-- ---- lane by lane

-- so of each lane, the first of which has this number
abbrev pub OnLanesFrom : {T : Type 0} → ℕ → (ℕ → T → Type 0) → List T → Type 0
OnLanesFrom lane holds [] = ⊤
OnLanesFrom lane holds (x ∷ xs) = holds lane x × OnLanesFrom (lane + 1) holds xs

-- each lane holds at least the bodies of each plan, and none of them was asked
abbrev pub AwaitClients : List ClientPlan → List Knowledge → Type 0
AwaitClients plans knows = AllByRecursion
    (λ plan. OnLanesFrom 0 (λ lane. HoldsPlans plan.client (sum (counts_on lane plan))) knows) plans

-- ---- results

-- what became of a client's body of this number on a lane
abbrev pub outcome_of : ClientResult → ℕ → ℕ → Option Outcome
outcome_of result lane seq = option_and_then (λ outcomes. slice_get outcomes seq) (slice_get result.lanes lane)

-- a result of the plan of a client, for a hub of so many lanes
abbrev pub IsResultFor : ℕ → ClientPlan → ClientResult → Type 0
IsResultFor lanes plan result = (result.client ≡ plan.client) × (length result.lanes ≡ lanes)

-- a result for each plan, in order
abbrev pub AreResultsFor : ℕ → List ClientPlan → List ClientResult → Type 0
AreResultsFor lanes [] [] = ⊤
AreResultsFor lanes (plan ∷ plans) (result ∷ results) =
    IsResultFor lanes plan result × AreResultsFor lanes plans results
AreResultsFor lanes plans results = ⊥

-- What a client did on a lane, by the entries of its pass: dispatch by dispatch it asked as many bodies as its plan
-- says and then took what became of them, and these are its outcomes there.
pub record DidPlan (lane : ℕ) (plan : ClientPlan) (result : ClientResult) (pass : Joined) : Type 0 where
  pub number : pass.number ≡ plan.client
  pub client : result.client ≡ plan.client
  pub dispatches : List (List Outcome)
  pub cut : map length dispatches ≡ counts_on lane plan
  pub outcomes : slice_get result.lanes lane ≡ Some (outcomes_in_order dispatches)
  pub items : List Item
  pub makers : AllByRecursion (λ (x : Item). x.client ≡ plan.client) items
  pub coded : pass.mine ≡ map as_recorded items
  pub actions : map numbered_action items ≡ dispatches_from 0 dispatches

-- the entries of a pass have the Took of a client's body of this number, with this outcome
pub record HasTook (client seq : ℕ) (outcome : Outcome) (pass : Joined) : Type 0 where
  pub give_ups : ℕ
  pub entry : Contains pass.mine (as_recorded (took_of client seq outcome give_ups))

-- what each client did there, in the order of the plans
abbrev pub DidPlans : ℕ → List ClientPlan → List ClientResult → List Joined → Type 0
DidPlans lane [] [] [] = ⊤
DidPlans lane (plan ∷ plans) (result ∷ results) (pass ∷ passes) =
    DidPlan lane plan result pass × DidPlans lane plans results passes
DidPlans lane plans results passes = ⊥

-- these passes were taken in behind those before, as many as were made
pub record TookIn (passes : List Joined) (before after : Knowledge) : Type 0 where
  pub number : after.number ≡ before.number
  pub opening : after.opening ≡ before.opening
  pub mine : after.mine ≡ before.mine
  pub made : after.made ≡ before.made + length passes
  pub joined' : after.joined ≡ before.joined ++ passes

-- what the master knows of a lane once all clients of the plans did them
pub record HaveRunOn (plans : List ClientPlan) (results : List ClientResult) (lane : ℕ) (before after : Knowledge)
    : Type 0 where
  pub passes : List Joined
  pub took_in : TookIn passes before after
  pub each : DidPlans lane plans results passes

-- entries none of which is a Plan
pub record HasNoPlan (pass : Joined) : Type 0 where
  pub items : List Item
  pub coded : pass.mine ≡ map as_recorded items
  pub none : AllByRecursion (λ (x : Item). plan_in x.what ≡ None) items

-- What the master knows of a lane whatever came of it: passes of the first clients were taken in, so many as seats were
-- made, and no client planned anything.
pub record HaveGoneOn (plans : List ClientPlan) (seats : ℕ) (before after : Knowledge) : Type 0 where
  pub passes : List Joined
  pub took_in : TookIn passes before after
  pub seats' : length passes ≡ seats
  pub clients : IsPrefix (map (λ (j : Joined). j.number) passes) (map (λ (p : ClientPlan). p.client) plans)
  pub no_plan : AllByRecursion HasNoPlan passes

-- so of each lane, the first of which has this number: before and after
abbrev pub OnEachLane : ℕ → (ℕ → Knowledge → Knowledge → Type 0) → List Knowledge → List Knowledge → Type 0
OnEachLane lane holds [] [] = ⊤
OnEachLane lane holds (before ∷ befores) (after ∷ afters) =
    holds lane before after × OnEachLane (lane + 1) holds befores afters
OnEachLane lane holds befores afters = ⊥

-- A master after all clients of these plans ran, with these results, and were taken in.
pub record HaveRun (plans : List ClientPlan) (results : List ClientResult) (old new : MasterState) : Type 0 where
  pub seats : new.seats ≡ old.seats + length plans
  pub lanes : OnEachLane 0 (HaveRunOn plans results) old.knows new.knows

-- A master after some clients of these plans, the first ones, were given seats and taken in.
pub record WereTakenIn (plans : List ClientPlan) (old new : MasterState) : Type 0 where
  pub made : ℕ
  pub few : made ≤ length plans
  pub seats : new.seats ≡ old.seats + made
  pub same_turns : new.turns ≡ old.turns
  pub same_room : new.room ≡ old.room
  pub lanes : OnEachLane 0 (λ lane. HaveGoneOn plans made) old.knows new.knows
