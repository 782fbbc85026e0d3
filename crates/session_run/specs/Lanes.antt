-- What becomes of a lane on which the clients of a session are planned and run. What private functions promise one
-- another; no public clause speaks of these.
use Rattle.std.specs.Prelude.{◌≡◌, ℕ, List, [], ◌∷◌, map, Option}
use Rattle.std.specs.List.{AllByRecursion}
use Rattle.ipb_base.specs.Numbers.{payload_of}
use Rattle.links.specs.Telling.{Telling}
use Rattle.world_model.specs.Settings.{Limits}
use Rattle.board_specs.specs.declared.spec.BoardSpec.{BoardSpec}
use Rattle.script_steps.specs.declared.operation.Step.{Step}
use Rattle.hub_lane.specs.Lanes.{LaneState, opening_of}
use Rattle.client_history.specs.Clients.{sealed_plans}
use Rattle.script_plans.specs.declared.greeting.Greeting.TheVariants.{Live}
use Rattle.script_plans.specs.declared.board_run.ClientPart.{ClientPart}
use Rattle.script_plans.specs.Plan.{ClientBodies, plans_on}
use Rattle.board_history.specs.History.{dispatches_of}
use Rattle.board_history.specs.Records.{IsClientsRecord, IsPartlyPlanned}
use Rattle.session_run.specs.Plans.{HasFewBodies}
use Rattle.board_greeting.specs.Boards.{IsKnownAs, head_shown}
use Rattle.session_run.specs.Clients.{IsWholePart, bodies_of_plans, with_items}

-- ---- side by side

-- so of each of three lists of the same length
abbrev pub AllThree : {A B C : Type 0} → (A → B → C → Type 0) → List A → List B → List C → Type 0
AllThree holds [] [] [] = Unit {0}
AllThree holds (x ∷ xs) (y ∷ ys) (z ∷ zs) = holds x y z × AllThree holds xs ys zs
AllThree holds xs ys zs = ⊥

-- so of each of four
abbrev pub AllFour : {A B C D : Type 0} → (A → B → C → D → Type 0) → List A → List B → List C → List D → Type 0
AllFour holds [] [] [] [] = Unit {0}
AllFour holds (x ∷ xs) (y ∷ ys) (z ∷ zs) (w ∷ ws) = holds x y z w × AllFour holds xs ys zs ws
AllFour holds xs ys zs ws = ⊥

-- ---- from one moment to another

-- what the clients' scripts ask of the board at a position over this lane
abbrev pub plans_over : {L : Type 0} → List (List Step) → ℕ → LaneState L → List ClientBodies
plans_over scripts position lane = plans_on position (Live (payload_of lane.status.mtu)) scripts

-- all clients are planned, and nothing else was done
pub record IsPlannedOn {L : Type 0} (scripts : List (List Step)) (position : ℕ) (old new : LaneState L)
    (planned : List ClientBodies) : Type 0 where
  pub plans : planned ≡ plans_over scripts position old
  pub few : AllByRecursion HasFewBodies planned
  pub lane' : new ≡ with_items old (sealed_plans (bodies_of_plans planned))

-- The lane has the head of its record, and entries of the clients whose scripts these are, whatever they had come to.
pub record HasGoneOn {L : Type 0} (tells : L → Option Telling) (scripts : List (List Step)) (position : ℕ)
    (old new : LaneState L) : Type 0 where
  pub head : head_shown tells new ≡ head_shown tells old
  pub some : IsPartlyPlanned (bodies_of_plans (plans_over scripts position old)) new.items

-- ---- at the end

-- Clients ran on a lane to their end, and these are their parts.
pub record IsRunOn {L : Type 0} (scripts : List (List Step)) (position : ℕ) (lane : LaneState L)
    (parts : List ClientPart) : Type 0 where
  pub planned : map (λ (p : ClientPart). p.planned) parts ≡ plans_over scripts position lane
  pub whole : AllByRecursion IsWholePart parts
  pub left : IsClientsRecord (map (λ (p : ClientPart). p.planned.bodies) parts) (map dispatches_of parts) lane.items

-- The lane is of the board of this document, and has entries of the clients whose scripts these are.
pub record IsStoppedLane {L : Type 0} (settings : Limits) (scripts : List (List Step)) (position : ℕ)
    (spec : BoardSpec) (telling : Option Telling) (lane : LaneState L) : Type 0 where
  pub settings' : lane.settings ≡ settings
  pub board' : IsKnownAs spec.link lane.status (opening_of telling)
  pub some : IsPartlyPlanned (bodies_of_plans (plans_over scripts position lane)) lane.items
