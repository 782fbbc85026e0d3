-- What is denied names a rule by its number in the policy, or 0.
use Rattle.std.proofs.Common.{◌≡◌, ℕ, suc, ◌+◌, ◌<◌, ◌≤◌, List, [], ◌∷◌, length, Bool, true, false, cond, Option, Some, None}
use Rattle.std.proofs.Common.{slice_get, ap, arith}
use Rattle.std.specs.Option.{option_map_or}
use Rattle.address_table.specs.declared.kinds.Permission.{Permission}
use Rattle.address_table.specs.declared.kinds.Permission.TheVariants.{R, W, Rw}
use Rattle.script_steps.specs.declared.operation.Decision.{Decision}
use Rattle.script_steps.specs.declared.operation.Decision.TheVariants.{Allowed, Denied}
use Rattle.script_steps.specs.declared.operation.RegOp.{RegOp}
use Rattle.script_steps.specs.declared.operation.Step.{Step}
use Rattle.script_steps.specs.declared.operation.Step.TheVariants as steps
use Rattle.access_policy.specs.Decisions.{access_decision, all_needed, both, decision_from, decision, needs_of, said}
use Rattle.access_policy.specs.Decisions.{speaks_of, step_decision}
use Rattle.access_policy.specs.Names.{items_of}
use Rattle.access_policy.specs.declared.policy.Access.{Access}
use Rattle.access_policy.specs.declared.policy.Access.TheVariants.{Reading, Writing}
use Rattle.access_policy.specs.declared.policy.Effect.{Effect}
use Rattle.access_policy.specs.declared.policy.Effect.TheVariants.{Allow, Deny}
use Rattle.access_policy.specs.declared.policy.Rule.{Rule}

-- the number that is told
abbrev told : Decision → ℕ
told Allowed = 0
told (Denied rule) = rule

said_number : (number : ℕ) (effect : Effect) → told (said number effect) ≤ number
said_number number Allow = omega arith
said_number number Deny = omega arith

first_number : (b : Bool) (number : ℕ) (rule : Rule) (later : Decision) (past : ℕ) → number < past → told later < past
    → told (cond b (said number rule.effect) later) < past
first_number true number rule later past h k = omega (arith, h, said_number number rule.effect)
first_number false number rule later past h k = k

decided_number : (speaks : Rule → Bool) (number : ℕ) (rules : List Rule) → 0 < number
    → told (decision_from speaks number rules) < number + length rules
decided_number speaks number [] some = omega (arith, some)
decided_number speaks number (rule ∷ rules) some =
    let later : told (decision_from speaks (number + 1) rules) < number + 1 + length rules =
    decided_number speaks (number + 1) rules (omega arith) in
    first_number (speaks rule) number rule (decision_from speaks (number + 1) rules) (number + suc (length rules)) (omega arith)
    (omega (arith, later))

both_numbers : (a b : Decision) (past : ℕ) → told a < past → told b < past → told (both a b) < past
both_numbers Allowed b past h k = k
both_numbers (Denied rule) b past h k = h

needed_number : (needs : Permission) (judge : Access → Decision) (past : ℕ) → ((access : Access) → told (judge access) < past)
    → told (all_needed needs judge) < past
needed_number R judge past each = each Reading
needed_number W judge past each = each Writing
needed_number Rw judge past each = both_numbers (judge Reading) (judge Writing) past (each Reading) (each Writing)

register_number : (policy : List Rule) (client : ℕ) (board name : List ℕ) (needs : Permission)
    → told (decision policy client board name needs) < 1 + length policy
register_number policy client board name needs =
    needed_number needs (access_decision policy client board (items_of name)) (1 + length policy)
    (λ access. decided_number (speaks_of access client board (items_of name)) 1 policy (omega arith))

op_number : (policy : List Rule) (client : ℕ) (op : RegOp) (board : Option (List ℕ))
    → told (option_map_or (λ board. decision policy client board op.name (needs_of op.verb)) board (Denied 0)) < 1 + length policy
op_number policy client op None = omega arith
op_number policy client op (Some board) = register_number policy client board op.name (needs_of op.verb)

step_number : (policy : List Rule) (client : ℕ) (boards : List (List ℕ)) (step : Step)
    → told (step_decision policy client boards step) < 1 + length policy
step_number policy client boards (steps.Do op) = op_number policy client op (slice_get boards op.board)
step_number policy client boards (steps.Denied rule op) = op_number policy client op (slice_get boards op.board)
step_number policy client boards steps.Dispatch = omega arith

is_told : (found : Decision) (rule most : ℕ) → found ≡ Denied rule → told found < 1 + most → rule ≤ most
is_told found rule most e h = omega (arith, ap told e, h)

pub denied_by : (policy : List Rule) (client : ℕ) (board name : List ℕ) (needs : Permission) (rule : ℕ)
    → decision policy client board name needs ≡ Denied rule → rule ≤ length policy
denied_by policy client board name needs rule e =
    is_told (decision policy client board name needs) rule (length policy) e
    (register_number policy client board name needs)

pub step_denied_by : (policy : List Rule) (client : ℕ) (boards : List (List ℕ)) (step : Step) (rule : ℕ)
    → step_decision policy client boards step ≡ Denied rule → rule ≤ length policy
step_denied_by policy client boards step rule e =
    is_told (step_decision policy client boards step) rule (length policy) e (step_number policy client boards step)
