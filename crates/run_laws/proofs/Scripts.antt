-- A policy leaves as many scripts as there were.
use Rattle.std.proofs.Common.{◌≡◌, ℕ, suc, ◌+◌, List, [], ◌∷◌, length, Option, Some, None, refl, ap}
use Rattle.access_policy.specs.Decisions.{ruled_from, ruled_scripts}
use Rattle.access_policy.specs.declared.policy.Rule.{Rule}
use Rattle.script_steps.specs.declared.operation.Step.{Step}

ruled_from_length : (policy : List Rule) (boards : List (List ℕ)) (client : ℕ) (scripts : List (List Step))
    → length (ruled_from policy boards client scripts) ≡ length scripts
ruled_from_length policy boards client [] = refl
ruled_from_length policy boards client (steps ∷ scripts) =
    ap suc (ruled_from_length policy boards (client + 1) scripts)

pub ruled_length : (policy : Option (List Rule)) (boards : List (List ℕ)) (scripts : List (List Step))
    → length (ruled_scripts policy boards scripts) ≡ length scripts
ruled_length None boards scripts = refl
ruled_length (Some rules) boards scripts = ruled_from_length rules boards 1 scripts
