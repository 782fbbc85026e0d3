-- Steps whose operations are on the boards of a session. Profile.
use Rattle.std.specs.Prelude.{ℕ, ◌<◌, List}
use Rattle.std.specs.List.{AllByRecursion}
use Rattle.script_steps.specs.declared.operation.Step.{Step}
use Rattle.script_steps.specs.declared.operation.Step.TheVariants.{Do, Denied, Dispatch}

-- an operation, denied or not, is on one of so many boards
abbrev pub StepIsOn : ℕ → Step → Type 0
StepIsOn boards (Do op) = op.board < boards
StepIsOn boards (Denied rule op) = op.board < boards
StepIsOn boards Dispatch = Unit {0}

abbrev pub StepsAreOn : ℕ → List Step → Type 0
StepsAreOn boards steps = AllByRecursion (StepIsOn boards) steps
