-- Outcomes that stand in the shape of the plan. Profile.
use Rattle.std.specs.Prelude.{◌≡◌, ℕ, ◌+◌, List, [], ◌∷◌, length, map}
use Rattle.script_steps.specs.declared.operation.Step.{Step}
use Rattle.lane_record.specs.declared.outcome.Outcome.{Outcome}
use Rattle.script_plans.specs.declared.board_run.BoardRun.{BoardRun}
use Rattle.script_plans.specs.Plan.{planned_on}
use Rattle.script_plans.specs.Runs.{runs_from, BoardFate}

-- on the board at this position each dispatch of each client has an outcome for each of its bodies
abbrev pub IsInShape : ℕ → List (List Step) → BoardFate → Type 0
IsInShape board scripts fate =
    map (λ (dispatches : List (List Outcome)). map length dispatches) fate.outcomes
    ≡ map (λ (steps : List Step). (planned_on board fate.greeting steps).counts) scripts

-- the boards, the first of which has this position
abbrev pub AreInShape : ℕ → List (List Step) → List BoardFate → Type 0
AreInShape board scripts [] = Unit {0}
AreInShape board scripts (fate ∷ fates) = IsInShape board scripts fate × AreInShape (board + 1) scripts fates

-- Runs, the first of which has this position, that show what became of their boards, where outcomes stand in the shape
-- of the plan.
pub record HaveFates (board : ℕ) (scripts : List (List Step)) (runs : List BoardRun) : Type 0 where
  pub fates : List BoardFate
  pub shown : runs ≡ runs_from board scripts fates
  pub shape : AreInShape board scripts fates
