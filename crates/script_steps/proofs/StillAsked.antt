-- Under a policy a client asks for the same operations.
use Rattle.std.proofs.Common.{◌≡◌, List, [], ◌∷◌, map, refl, ap, ◌∙◌, Some, None}
use Rattle.std.specs.List.{cons_option}
use Rattle.script_steps.specs.declared.operation.Decision.{Decision}
use Rattle.script_steps.specs.declared.operation.Decision.TheVariants as decision
use Rattle.script_steps.specs.declared.operation.RegOp.{RegOp}
use Rattle.script_steps.specs.declared.operation.Step.{Step}
use Rattle.script_steps.specs.declared.operation.Step.TheVariants.{Do, Denied, Dispatch}
use Rattle.script_steps.specs.Judging.{denied_after, judged_operation}
use Rattle.script_steps.specs.Rulings.{Asked, asked_operations, asked_in, steps_under_policy, ruled_step}

-- an operation that was not denied has the rule of the decision
one_asked : (op : RegOp) (said : Decision)
    → asked_in (ruled_step (Do op) said) ≡ Some (record { op = op; denied = denied_after None said })
one_asked op decision.Allowed = refl
one_asked op (decision.Denied rule) = refl

pub still_asked : (judge : Step → Decision) (steps : List Step)
    → asked_operations (steps_under_policy steps (map judge steps)) ≡ map (judged_operation judge) (asked_operations steps)
still_asked judge [] = refl
still_asked judge (Do op ∷ steps) =
    ap (λ one. cons_option one (asked_operations (steps_under_policy steps (map judge steps)))) (one_asked op (judge (Do op)))
    ∙ ap (λ (asks : List Asked). record { op = op; denied = denied_after None (judge (Do op)) } ∷ asks)
    (still_asked judge steps)
still_asked judge (Denied rule op ∷ steps) =
    ap (λ (asks : List Asked). record { op = op; denied = Some rule } ∷ asks) (still_asked judge steps)
still_asked judge (Dispatch ∷ steps) = still_asked judge steps
