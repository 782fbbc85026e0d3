-- What became of what the clients of a session asked of its boards. Profile.
use Rattle.std.specs.Prelude.{ℕ, ◌+◌, List, [], ◌∷◌, Option, map, drop, get_or, ◌≡◌, ◌≢◌}
use Rattle.std.specs.List.{flat_map, AllPairs}
use Rattle.script_steps.specs.declared.operation.Step.{Step}
use Rattle.lane_record.specs.declared.outcome.Outcome.{Outcome}
use Rattle.script_plans.specs.declared.board_run.ClientPart.{ClientPart}
use Rattle.script_plans.specs.declared.board_run.BoardRun.{BoardRun}
use Rattle.script_plans.specs.Plan.{plans_on, planned_on}
use Rattle.script_plans.specs.declared.greeting.Greeting.{Greeting}

-- what became of all bodies of some clients on a board
abbrev pub outcomes_in : List ClientPart → List Outcome
outcomes_in parts = flat_map (λ (part : ClientPart). part.outcomes) parts

abbrev pub outcomes_on : BoardRun → List Outcome
outcomes_on run = outcomes_in run.parts

-- ---- what clients asked of the boards of a session

-- each client asked the board at this position for the bodies of its script
abbrev pub IsPlanned : ℕ → List (List Step) → BoardRun → Type 0
IsPlanned board scripts run =
    map (λ (part : ClientPart). part.planned) run.parts ≡ plans_on board run.greeting scripts

-- the same of all boards, the first of which has this position
abbrev pub ArePlanned : ℕ → List (List Step) → List BoardRun → Type 0
ArePlanned board scripts [] = Unit {0}
ArePlanned board scripts (run ∷ runs) = IsPlanned board scripts run × ArePlanned (board + 1) scripts runs

-- no two boards have one name
abbrev pub HaveOwnNames : List BoardRun → Type 0
HaveOwnNames runs = AllPairs (λ (one other : BoardRun). one.name ≢ other.name) runs

-- ---- outcomes in the shape of the plan

-- What became of a board: its name, what greeting it told, the outcome of each body, client by client and dispatch by
-- dispatch, and what came late for the bodies of each client. Clients behind the end of that list have no late answer.
pub record BoardFate : Type 0 where
  pub name : List ℕ
  pub greeting : Greeting
  pub outcomes : List (List (List Outcome))
  pub lates : List (List (Option (List ℕ)))

-- what a client asked of a board, what became of it, and what came late
abbrev pub part_on : ℕ → Greeting → List Step → List (List Outcome) → List (Option (List ℕ)) → ClientPart
part_on board told steps outcomes lates = record {
  planned = planned_on board told steps;
  outcomes = flat_map (λ dispatch. dispatch) outcomes;
  lates = lates;
}

-- the clients' parts on a board
abbrev pub parts_on : ℕ → Greeting → List (List Step) → List (List (List Outcome)) → List (List (Option (List ℕ)))
    → List ClientPart
parts_on board told [] outcomes lates = []
parts_on board told (steps ∷ scripts) [] lates = []
parts_on board told (steps ∷ scripts) (first ∷ others) lates =
    part_on board told steps first (get_or lates 0 []) ∷ parts_on board told scripts others (drop 1 lates)

-- each board, the first of which has this position
abbrev pub runs_from : ℕ → List (List Step) → List BoardFate → List BoardRun
runs_from board scripts [] = []
runs_from board scripts (fate ∷ fates) =
    record {
      name = fate.name;
      greeting = fate.greeting;
      parts = parts_on board fate.greeting scripts fate.outcomes fate.lates;
    }
    ∷ runs_from (board + 1) scripts fates
