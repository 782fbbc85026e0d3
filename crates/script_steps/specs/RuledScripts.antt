-- The scripts of a session under an access policy. Profile.
use Rattle.std.specs.Prelude.{◌≡◌, List}
use Rattle.std.specs.List.{AllZip}
use Rattle.script_steps.specs.declared.operation.Step.{Step}
use Rattle.script_steps.specs.declared.operation.Decision.{Decision}
use Rattle.script_steps.specs.Rulings.{steps_under_policy}

-- steps under some decisions
abbrev pub IsRuled : List Step → List Step → Type 0
IsRuled steps now = (decisions : List Decision) × (now ≡ steps_under_policy steps decisions)

-- each script under decisions of its own
abbrev pub AreRuled : List (List Step) → List (List Step) → Type 0
AreRuled scripts now = AllZip IsRuled scripts now
