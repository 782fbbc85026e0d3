-- What an access policy makes of the steps of a script, and what a client asks for by them. Profile.
use Rattle.std.specs.Prelude.{ℕ, List, [], ◌∷◌, ◌++◌, Option, Some, None}
use Rattle.std.specs.List.{filter_map}
use Rattle.script_steps.specs.declared.operation.RegOp.{RegOp}
use Rattle.script_steps.specs.declared.operation.Step.{Step}
use Rattle.script_steps.specs.declared.operation.Step.TheVariants.{Do, Denied, Dispatch}
use Rattle.script_steps.specs.declared.operation.Decision.{Decision}
use Rattle.script_steps.specs.declared.operation.Decision.TheVariants as decision

-- an operation that is denied is done no more; what was denied before stays so, and a dispatch asks for nothing
abbrev pub ruled_step : Step → Decision → Step
ruled_step (Do op) decision.Allowed = Do op
ruled_step (Do op) (decision.Denied rule) = Denied rule op
ruled_step (Denied rule op) decision = Denied rule op
ruled_step Dispatch decision = Dispatch

-- each step under the decision of its position; steps without one stay as they are
abbrev pub steps_under_policy : List Step → List Decision → List Step
steps_under_policy [] decisions = []
steps_under_policy (step ∷ steps) [] = step ∷ steps
steps_under_policy (step ∷ steps) (decision ∷ decisions) = ruled_step step decision ∷ steps_under_policy steps decisions

-- ---- what is left without the denied

-- the step alone, or none where it is an operation that is denied
abbrev pub permitted_step : Step → Decision → List Step
permitted_step (Do op) decision.Allowed = Do op ∷ []
permitted_step (Do op) (decision.Denied rule) = []
permitted_step (Denied rule op) decision = []
permitted_step Dispatch decision = Dispatch ∷ []

-- the steps without those that are denied, each under the decision of its position; steps without one stay
abbrev pub permitted_steps : List Step → List Decision → List Step
permitted_steps [] decisions = []
permitted_steps (step ∷ steps) [] = step ∷ steps
permitted_steps (step ∷ steps) (decision ∷ decisions) = permitted_step step decision ++ permitted_steps steps decisions

-- ---- what a client asks for

-- An operation of a script, and the number of the rule that denies it, where one does.
pub record Asked : Type 0 where
  pub op : RegOp
  pub denied : Option ℕ

abbrev pub asked_in : Step → Option Asked
asked_in (Do op) = Some (record { op = op; denied = None })
asked_in (Denied rule op) = Some (record { op = op; denied = Some rule })
asked_in Dispatch = None

-- all operations of a client, denied or not, in order
abbrev pub asked_operations : List Step → List Asked
asked_operations steps = filter_map asked_in steps

abbrev pub unless_denied : Option ℕ → RegOp → Option RegOp
unless_denied None op = Some op
unless_denied (Some rule) op = None

abbrev pub allowed_in : Asked → Option RegOp
allowed_in ask = unless_denied ask.denied ask.op

-- those that no rule denies
abbrev pub allowed_operations : List Asked → List RegOp
allowed_operations asks = filter_map allowed_in asks
