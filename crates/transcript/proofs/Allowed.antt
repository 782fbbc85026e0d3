-- The operations that a client asks for and no rule denies.
use Rattle.std.proofs.Common.{◌≡◌, List, [], ◌∷◌, ◌++◌, refl, ap}
use Rattle.std.proofs.lemmas.List.Elements.{filter_map-append}
use Rattle.script_steps.specs.Rulings.{Asked, asked_operations, allowed_in, allowed_operations}
use Rattle.script_steps.specs.declared.operation.RegOp.{RegOp}
use Rattle.script_steps.specs.declared.operation.Step.{Step}
use Rattle.script_steps.specs.declared.operation.Step.TheVariants.{Do, Denied, Dispatch}
use Rattle.script_plans.specs.Plan.{operations}

pub allowed-append : (asks more : List Asked) → allowed_operations (asks ++ more) ≡ allowed_operations asks ++ allowed_operations more
allowed-append asks more = filter_map-append allowed_in asks more

-- those that a client asks for and that are not denied are its operations
pub asked_allowed : (steps : List Step) → allowed_operations (asked_operations steps) ≡ operations steps
asked_allowed [] = refl
asked_allowed (Do op ∷ steps) = ap (λ (ops : List RegOp). op ∷ ops) (asked_allowed steps)
asked_allowed (Denied rule op ∷ steps) = asked_allowed steps
asked_allowed (Dispatch ∷ steps) = asked_allowed steps
