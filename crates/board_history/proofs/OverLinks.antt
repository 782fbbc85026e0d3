-- Over each link of a session passed what the machine of the protocol does, where a status was told over it.
use Rattle.std.proofs.Common.{◌≡◌, ℕ, ◌+◌, List, [], ◌∷◌, Option, None, Some, IfSome}
use Rattle.std.specs.List.{AllByRecursion}
use Rattle.board_specs.specs.declared.spec.BoardSpec.{BoardSpec}
use Rattle.world_model.specs.Settings.{Limits}
use Rattle.links.specs.Receives.{first_status, receives_in}
use Rattle.script_steps.specs.declared.operation.Step.{Step}
use Rattle.script_plans.specs.declared.greeting.Greeting.{Greeting}
use Rattle.script_plans.specs.declared.greeting.Greeting.TheVariants.{Live, Silent, Down}
use Rattle.script_plans.specs.declared.board_run.BoardRun.{BoardRun}
use Rattle.board_history.specs.LinkRuns.{AreRunsOver, IsAsTold}
use Rattle.board_history.specs.Links.{LinkReport}
use Rattle.board_history.specs.Machine.{RanAsMachine}

-- what holds wherever a status was told: it holds, or none was told
if_any : {A : Type 0} (P : Type 0) (there : Option A) → P → IfSome there (λ one. P)
if_any P None holds = tt
if_any P (Some one) holds = holds

if_none : {A : Type 0} (P : Type 0) (there : Option A) → there ≡ None → IfSome there (λ one. P)
if_none P None none = tt
if_none P (Some one) none = absurd cc

-- over the link of a board, however it stands
pub ran_as_told : (settings : Limits) (spec : BoardSpec) (run : BoardRun) (link : LinkReport) (greeting : Greeting)
    → IsAsTold settings spec run link greeting → RanAsMachine link
ran_as_told settings spec run link (Live payload) told =
    if_any _ (first_status (receives_in link.traffic)) (settings, payload, run, told.any_link.machine)
ran_as_told settings spec run link Silent told = if_none _ (first_status (receives_in link.traffic)) told.untold
ran_as_told settings spec run link Down told = if_none _ (first_status (receives_in link.traffic)) told.untold

-- over the links of all boards of a run
pub ran_over : (settings : Limits) (board : ℕ) (specs : List BoardSpec) (scripts : List (List Step))
    (runs : List BoardRun) (links : List LinkReport) → AreRunsOver settings board specs scripts runs links
    → AllByRecursion RanAsMachine links
ran_over settings board [] scripts [] [] are = tt
ran_over settings board [] scripts [] (link ∷ links) are = absurd are
ran_over settings board [] scripts (run ∷ runs) links are = absurd are
ran_over settings board (spec ∷ specs) scripts [] links are = absurd are
ran_over settings board (spec ∷ specs) scripts (run ∷ runs) [] are = absurd are
ran_over settings board (spec ∷ specs) scripts (run ∷ runs) (link ∷ links) are = (
  ran_as_told settings spec run link run.greeting are.0.as_told,
  ran_over settings (board + 1) specs scripts runs links are.1,
)
