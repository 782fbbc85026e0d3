-- What the code keeps of a client from its seat's making to its joining. Profile.
use Rattle.std.specs.Prelude.{◌≡◌, ℕ, ◌+◌, Bool, true, false, None, List, [], ◌++◌, length, map, sum}
use Rattle.std.specs.List.{AllByRecursion}
use Rattle.turn_pass.specs.Pass.{Joined, Knowledge, TurnId}
use Rattle.lane_record.specs.declared.item.Item.{Item}
use Rattle.lane_record.specs.Items.{plan_in}
use Rattle.lane_record.specs.Coding.{as_recorded}
use Rattle.client_threads.specs.declared.plan.ClientPlan.{ClientPlan}
use Rattle.client_threads.specs.declared.result.ClientResult.{ClientResult}
use Rattle.client_threads.specs.declared.job.Job.{Job}
use Rattle.hub_multiplexer.specs.Ends.{HasTakenIn}
use Rattle.hub_multiplexer.specs.Seats.{MasterState}
use Rattle.client_threads.specs.Clients.{AreOfClientsFrom, AreResultsFor, DidPlans, HasNoPlan, IsPlanFor, counts_on}
use Rattle.client_threads.specs.Running.{AtEach, HasRun, OfEach}

-- a pass of a client that made no entry yet
pub record IsFresh (client : ℕ) (k : Knowledge) : Type 0 where
  pub number : k.number ≡ client
  pub no_entry : k.mine ≡ []
  pub alone : k.joined ≡ []

-- a pass of a client that planned nothing
pub record IsOwn (client : ℕ) (k : Knowledge) : Type 0 where
  pub number : k.number ≡ client
  pub alone : k.joined ≡ []
  pub items : List Item
  pub coded : k.mine ≡ map as_recorded items
  pub none : AllByRecursion (λ (x : Item). plan_in x.what ≡ None) items

-- the client did so many bodies of its plan on each lane
abbrev pub StandsAt : (ℕ → List ℕ) → Job → Type 0
StandsAt counts job =
    AtEach job.seat.knows job.lanes.items (λ on. HasRun job.plan.now.client (sum (counts_on on job.plan.now))
    (counts on))

-- a client at its seat, before it runs
pub record IsSeated (turns : List TurnId) (job : Job) : Type 0 where
  pub plan_fits : IsPlanFor (length turns) job.plan.now
  pub client : job.seat.client ≡ job.plan.now.client
  pub same_turns : job.seat.turns ≡ turns
  pub boards : length job.lanes.items ≡ length turns
  pub fresh : OfEach job.seat.knows (λ on. IsFresh job.plan.now.client)
  pub first : StandsAt (λ on. []) job
  pub not_run : job.ran ≡ false

-- a client at its seat, whatever came of its run
pub record HasEnded (turns : List TurnId) (job : Job) : Type 0 where
  pub client : job.seat.client ≡ job.plan.now.client
  pub same_turns : job.seat.turns ≡ turns
  pub boards : length job.lanes.items ≡ length turns
  pub known : length job.lanes.items ≡ length job.seat.knows
  pub own : OfEach job.seat.knows (λ on. IsOwn job.plan.now.client)
  pub ran_all : job.ran ≡ true → StandsAt (λ on. counts_on on job.plan.now) job

abbrev pub plans_of : List Job → List ClientPlan
plans_of jobs = map (λ (job : Job). job.plan.now) jobs

-- what the first pass of a lane knows after so many more were made
abbrev pub made_more : ℕ → Knowledge → Knowledge
made_more n k = record k { made = k.made + n }

-- what the first pass of a lane knows after it took in the passes of clients of these plans
pub record TookThemIn (plans : List ClientPlan) (results : List ClientResult) (ran : Bool) (lane : ℕ)
    (k after : Knowledge) : Type 0 where
  pub passes : List Joined
  pub same_number : after.number ≡ k.number
  pub same_opening : after.opening ≡ k.opening
  pub same_mine : after.mine ≡ k.mine
  pub same_made : after.made ≡ k.made
  pub more_joined : after.joined ≡ k.joined ++ passes
  pub numbers : map (λ (j : Joined). j.number) passes ≡ map (λ (p : ClientPlan). p.client) plans
  pub no_plan : AllByRecursion HasNoPlan passes
  pub did_all : ran ≡ true → DidPlans lane plans results passes

-- a master after it took in the seats of these clients, with these results, and whether all did all of their plans
pub record AreJoined (turns : List TurnId) (old new : MasterState) (jobs : List Job) (results : List ClientResult)
    (ran : Bool) : Type 0 where
  pub rest_same : new ≡ record old { knows = new.knows }
  pub lanes : AtEach old.knows new.knows (λ lane. TookThemIn (plans_of jobs) results ran lane)
  pub results_fit : AreResultsFor (length turns) (plans_of jobs) results
  pub taken_in : (client : ℕ) → AreOfClientsFrom client (plans_of jobs) → HasTakenIn client old
      → HasTakenIn (client + length jobs) new
