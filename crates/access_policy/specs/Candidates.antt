-- How the code finds the rule that decides: the rules that a client has on a board, with their numbers, and of these the
-- first that speaks of an access. No public clause speaks of it.
use denote.Ref.{Bor}
use Rattle.std.specs.Prelude.{◌≡◌, ℕ, ◌+◌, Bool, ◌&&◌, if◌then◌else◌, List, [], ◌∷◌, Some, slice_get}
use Rattle.std.specs.BTreeMap.{BTreeMap, get_by}
use Rattle.std.specs.Cmp.Lexicographic.{slice_cmp}
use Rattle.std.specs.List.{filter}
use Rattle.std.specs.Ordering.{nat_cmp}
use Rattle.std.specs.Option.{option_map_or}
use Rattle.address_table.specs.declared.kinds.Permission.{Permission}
use Rattle.script_steps.specs.declared.operation.Decision.{Decision}
use Rattle.script_steps.specs.declared.operation.Decision.TheVariants.{Allowed, Denied}
use Rattle.script_steps.specs.declared.operation.RegOp.{RegOp}
use Rattle.script_steps.specs.declared.operation.Step.{Step}
use Rattle.script_steps.specs.declared.operation.Step.TheVariants as steps
use Rattle.access_policy.specs.Decisions.{all_needed, client_matches, has_access, needs_of, said}
use Rattle.access_policy.specs.Names.{NameItem, items_of}
use Rattle.access_policy.specs.Patterns.{board_matches, items_match}
use Rattle.access_policy.specs.declared.policy.Access.{Access}
use Rattle.access_policy.specs.declared.policy.Rule.{Rule}

-- a rule and its number
pub record Numbered : Type 0 where
  pub number : ℕ
  pub rule : Rule

abbrev pub with_numbers : ℕ → List Rule → List Numbered
with_numbers number [] = []
with_numbers number (rule ∷ rules) = record { number = number; rule = rule } ∷ with_numbers (number + 1) rules

-- a rule speaks of the client and the board
abbrev pub concerns : ℕ → List ℕ → Rule → Bool
concerns client board rule = client_matches rule.client client && board_matches rule.pattern.board board

-- the rules that speak of a client and a board
abbrev pub candidates_from : ℕ → List Rule → ℕ → List ℕ → List Numbered
candidates_from number policy client board =
    filter (λ (candidate : Numbered). concerns client board candidate.rule) (with_numbers number policy)

-- such a rule speaks of an access to a register
abbrev pub is_of : Access → List NameItem → Rule → Bool
is_of access items rule = has_access rule.access access && items_match rule.pattern.items rule.pattern.rest items

-- what the first of these rules says
abbrev pub first_of : Access → List NameItem → List Numbered → Decision
first_of access items [] = Denied 0
first_of access items (candidate ∷ candidates) =
    if is_of access items candidate.rule then said candidate.number candidate.rule.effect
    else first_of access items candidates

-- what is known of names is what these rules say of them
abbrev pub IsKnown : Access → List Numbered → BTreeMap (Bor (List ℕ)) Decision → Type 0
IsKnown access candidates known = (name : List ℕ) (decision : Decision)
    → get_by (λ key. slice_cmp nat_cmp name key.now) known ≡ Some decision
    → decision ≡ first_of access (items_of name) candidates

-- what they say of a use of a register
abbrev pub said_of : List Numbered → List NameItem → Permission → Decision
said_of candidates items needs = all_needed needs (λ access. first_of access items candidates)

-- what the rules of each board say of an operation and of a step
abbrev pub op_said : List (List Numbered) → RegOp → Decision
op_said rules op =
    option_map_or
    (λ candidates. said_of candidates (items_of op.name) (needs_of op.verb))
    (slice_get rules op.board)
    (Denied 0)

abbrev pub step_said : List (List Numbered) → Step → Decision
step_said rules (steps.Do op) = op_said rules op
step_said rules (steps.Denied rule op) = op_said rules op
step_said rules steps.Dispatch = Allowed
