-- What a client asks for under a policy that judges its steps one by one. Profile.
use Rattle.std.specs.Prelude.{ℕ, Option, Some, None}
use Rattle.script_steps.specs.declared.operation.Decision.{Decision}
use Rattle.script_steps.specs.declared.operation.Decision.TheVariants as decision
use Rattle.script_steps.specs.declared.operation.Step.{Step}
use Rattle.script_steps.specs.declared.operation.Step.TheVariants.{Do}
use Rattle.script_steps.specs.Rulings.{Asked}

-- the rule that denies an operation under a decision: one that denied it before, or the one that the decision names
abbrev pub denied_after : Option ℕ → Decision → Option ℕ
denied_after (Some rule) decision = Some rule
denied_after None decision.Allowed = None
denied_after None (decision.Denied rule) = Some rule

-- the same operation, under what the policy says of its step
abbrev pub judged_operation : (Step → Decision) → Asked → Asked
judged_operation judge ask = record { op = ask.op; denied = denied_after ask.denied (judge (Do ask.op)) }
