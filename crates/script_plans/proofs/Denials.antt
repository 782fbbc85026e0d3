-- Steps under the decisions of a policy are planned as those without the denied ones.
use Rattle.std.proofs.Common.{◌≡◌, ℕ, List, [], ◌∷◌, map, refl, ap}
use Rattle.mtu_packer.specs.Packed.{packed_contents}
use Rattle.script_steps.specs.Rulings.{permitted_steps, steps_under_policy}
use Rattle.script_steps.specs.declared.operation.Decision.{Decision}
use Rattle.script_steps.specs.declared.operation.Decision.TheVariants as decision
use Rattle.script_steps.specs.declared.operation.RegOp.{RegOp}
use Rattle.script_steps.specs.declared.operation.Step.{Step}
use Rattle.script_steps.specs.declared.operation.Step.TheVariants.{Do, Denied, Dispatch}
use Rattle.script_plans.specs.declared.greeting.Greeting.{Greeting}
use Rattle.script_plans.specs.declared.greeting.Greeting.TheVariants.{Live, Silent, Down}
use Rattle.script_plans.specs.Plan.{all_dispatches, into_next_dispatch, dispatches, ops_on, planned_on}

same_dispatches : (steps : List Step) (decisions : List Decision)
    → dispatches (steps_under_policy steps decisions) ≡ dispatches (permitted_steps steps decisions)
same_dispatches [] decisions = refl
same_dispatches (step ∷ steps) [] = refl
same_dispatches (Do op ∷ steps) (decision.Allowed ∷ decisions) = ap (into_next_dispatch op) (same_dispatches steps decisions)
same_dispatches (Do op ∷ steps) (decision.Denied rule ∷ decisions) = same_dispatches steps decisions
same_dispatches (Denied rule op ∷ steps) (decision ∷ decisions) = same_dispatches steps decisions
same_dispatches (Dispatch ∷ steps) (decision ∷ decisions) =
    ap (λ (ds : List (List RegOp)). [] ∷ ds) (same_dispatches steps decisions)

pub planned_alike : (board : ℕ) (told : Greeting) (steps : List Step) (decisions : List Decision)
    → planned_on board told (steps_under_policy steps decisions) ≡ planned_on board told (permitted_steps steps decisions)
planned_alike board (Live payload) steps decisions =
    ap (λ (ds : List (List RegOp)). all_dispatches (map (λ dispatch. packed_contents payload (ops_on board dispatch)) ds))
    (same_dispatches steps decisions)
planned_alike board Silent steps decisions = refl
planned_alike board Down steps decisions = refl
