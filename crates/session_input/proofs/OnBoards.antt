-- The operations of a session that can be run are on its boards.
use Rattle.std.proofs.Common.{◌≡◌, ℕ, ◌+◌, List, [], ◌∷◌, length, Option, Some, None, sym, subst}
use Rattle.std.specs.List.{AllByRecursion}
use Rattle.access_policy.specs.Decisions.{decisions, names_of, ruled_from, ruled_scripts}
use Rattle.access_policy.specs.declared.policy.Rule.{Rule}
use Rattle.script_lang.specs.declared.session.Session.{Session}
use Rattle.script_lang.specs.OnBoards.{StepIsOn, StepsAreOn}
use Rattle.script_steps.specs.Rulings.{steps_under_policy, ruled_step}
use Rattle.script_steps.specs.declared.operation.Decision.{Decision}
use Rattle.script_steps.specs.declared.operation.Decision.TheVariants as decision
use Rattle.script_steps.specs.declared.operation.Step.{Step}
use Rattle.script_steps.specs.declared.operation.Step.TheVariants.{Do, Denied, Dispatch}
use Rattle.session_input.specs.Deserved.{AreOnBoards}

-- ---- under a policy

step_ruled : (boards : ℕ) (step : Step) (said : Decision) → StepIsOn boards step → StepIsOn boards (ruled_step step said)
step_ruled boards (Do op) decision.Allowed on = on
step_ruled boards (Do op) (decision.Denied rule) on = on
step_ruled boards (Denied rule op) said on = on
step_ruled boards Dispatch said on = tt

steps_ruled : (boards : ℕ) (steps : List Step) (said : List Decision) → StepsAreOn boards steps
    → StepsAreOn boards (steps_under_policy steps said)
steps_ruled boards [] said on = tt
steps_ruled boards (step ∷ steps) [] on = on
steps_ruled boards (step ∷ steps) (one ∷ said) on =
    (step_ruled boards step one on.0, steps_ruled boards steps said on.1)

scripts_ruled : (boards : ℕ) (policy : List Rule) (names : List (List ℕ)) (client : ℕ) (scripts : List (List Step))
    → AllByRecursion (StepsAreOn boards) scripts
    → AllByRecursion (StepsAreOn boards) (ruled_from policy names client scripts)
scripts_ruled boards policy names client [] on = tt
scripts_ruled boards policy names client (steps ∷ scripts) on = (
  steps_ruled boards steps (decisions policy client names steps) on.0,
  scripts_ruled boards policy names (client + 1) scripts on.1,
)

all_ruled : (boards : ℕ) (policy : Option (List Rule)) (names : List (List ℕ)) (scripts : List (List Step))
    → AllByRecursion (StepsAreOn boards) scripts
    → AllByRecursion (StepsAreOn boards) (ruled_scripts policy names scripts)
all_ruled boards None names scripts on = on
all_ruled boards (Some policy) names scripts on = scripts_ruled boards policy names 1 scripts on

steps_asked : (boards : ℕ) (steps : List Step) → StepsAreOn boards steps → AreOnBoards boards steps
steps_asked boards [] on = tt
steps_asked boards (Do op ∷ steps) on = (on.0, steps_asked boards steps on.1)
steps_asked boards (Denied rule op ∷ steps) on = (on.0, steps_asked boards steps on.1)
steps_asked boards (Dispatch ∷ steps) on = steps_asked boards steps on.1

all_asked : (boards : ℕ) (scripts : List (List Step)) → AllByRecursion (StepsAreOn boards) scripts
    → AllByRecursion (AreOnBoards boards) scripts
all_asked boards [] on = tt
all_asked boards (steps ∷ scripts) on = (steps_asked boards steps on.0, all_asked boards scripts on.1)

pub on_boards : (session : Session) (policy : Option (List Rule)) (meant steps : List (List Step))
    → AllByRecursion (StepsAreOn (length session.boards)) meant
    → steps ≡ ruled_scripts policy (names_of session.boards) meant
    → AllByRecursion (AreOnBoards (length session.boards)) steps
on_boards session policy meant steps on is =
    let boards = length session.boards in
    subst (AllByRecursion (AreOnBoards boards)) (sym is)
    (all_asked boards (ruled_scripts policy (names_of session.boards) meant)
    (all_ruled boards policy (names_of session.boards) meant on))
