-- The run of a lane's clients.
use Rattle.std.proofs.Common.{◌≡◌, ℕ, ◌∙◌, List, [], ◌∷◌, length, map, refl, ap}
use Rattle.std.specs.List.{AllByRecursion}
use Rattle.board_specs.specs.declared.spec.BoardSpec.{BoardSpec}
use Rattle.lane_record.specs.declared.outcome.Outcome.{Outcome}
use Rattle.script_steps.specs.declared.operation.Step.{Step}
use Rattle.script_plans.specs.declared.board_run.ClientPart.{ClientPart}
use Rattle.script_plans.specs.declared.board_run.BoardRun.{BoardRun}
use Rattle.script_plans.specs.Plan.{plans_on}
use Rattle.board_history.specs.LinkRuns.{ShowsScripts}
use Rattle.session_run.specs.Clients.{IsWholePart}
use Rattle.session_run.proofs.DispatchParts.{plan_in_part}

same_shape : (parts : List ClientPart) → AllByRecursion IsWholePart parts
    → map (λ (l : List Outcome). length l) (map (λ (p : ClientPart). p.outcomes) parts)
    ≡ map (λ (b : List (List ℕ)). length b) (map (λ (p : ClientPart). p.planned.bodies) parts)
same_shape [] all = refl
same_shape (p ∷ parts) all =
    ap (λ (n : ℕ). n ∷ map (λ (l : List Outcome). length l) (map (λ (q : ClientPart). q.outcomes) parts)) all.0.each
    ∙ ap (λ (l : List ℕ). length p.planned.bodies ∷ l) (same_shape parts all.1)

pub shows_scripts : (spec : BoardSpec) (board : ℕ) (scripts : List (List Step)) (run : BoardRun) → run.name ≡ spec.name
    → map plan_in_part run.parts ≡ plans_on board run.greeting scripts → AllByRecursion IsWholePart run.parts
    → ShowsScripts spec board scripts run
shows_scripts spec board scripts run name plans whole =
    record { name = name; plans = plans; shape = same_shape run.parts whole }
