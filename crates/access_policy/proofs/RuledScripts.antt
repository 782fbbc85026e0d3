-- Where no script is left to rule.
use Rattle.std.proofs.Common.{◌≡◌, ℕ, ◌+◌, ◌≤◌, List, ◌++◌, length, take, drop, ap, sym, ◌∙◌}
use Rattle.std.proofs.lemmas.List.{drop_all, take-append-drop}
use Rattle.script_steps.specs.declared.operation.Step.{Step}
use Rattle.access_policy.specs.Decisions.{ruled_from}
use Rattle.access_policy.specs.declared.policy.Rule.{Rule}

pub ruled_to_the_end : (policy : List Rule) (boards : List (List ℕ)) (scripts : List (List Step)) (i : ℕ)
    → length scripts ≤ i
    → take i scripts ++ ruled_from policy boards (i + 1) (drop i scripts) ≡ scripts
ruled_to_the_end policy boards scripts i done =
    ap (λ left. take i scripts ++ left)
    (ap (ruled_from policy boards (i + 1)) (drop_all i scripts done) ∙ sym (drop_all i scripts done))
    ∙ take-append-drop i scripts
