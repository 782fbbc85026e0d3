-- The runs of boards, one by one. What private functions promise one another; no public clause speaks of these.
use Rattle.std.specs.Prelude.{◌≡◌, List, Option, Some, Result, Ok, Err}
use Rattle.board_specs.specs.declared.spec.BoardSpec.{BoardSpec}
use Rattle.script_plans.specs.declared.greeting.Greeting.{Greeting}
use Rattle.script_plans.specs.declared.board_run.BoardRun.{BoardRun}
use Rattle.script_plans.specs.declared.board_run.ClientPart.{ClientPart}
pub use Rattle.board_greeting.specs.Reports.{shown_by}

-- there is a run, and it is so
abbrev pub OnRun : {E : Type 0} → Result BoardRun E → (BoardRun → Type 0) → Type 0
OnRun (Ok run) holds = holds run
OnRun (Err fault) holds = ⊥

-- a run has this name and this greeting, and these parts
pub record IsNamed (spec : BoardSpec) (told : Greeting) (parts : Option (List ClientPart)) (run : BoardRun)
    : Type 0 where
  pub name' : run.name ≡ spec.name
  pub greeting' : run.greeting ≡ told
  pub parts' : parts ≡ Some run.parts
