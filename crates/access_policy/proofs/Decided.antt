-- The rules that speak of a client and a board decide as all rules do.
use Rattle.std.proofs.Common.{◌≡◌, ℕ, zero, suc, ◌+◌, List, [], ◌∷◌, map, Bool, true, false, ◌&&◌, cond, Option, Some, None}
use Rattle.std.proofs.Common.{option_map, slice_get, refl, ap, ◌∙◌}
use Rattle.std.specs.Option.{option_map_or}
use Rattle.address_table.specs.declared.kinds.Permission.{Permission}
use Rattle.address_table.specs.declared.kinds.Permission.TheVariants.{R, W, Rw}
use Rattle.script_steps.specs.declared.operation.Decision.{Decision}
use Rattle.script_steps.specs.declared.operation.Decision.TheVariants.{Denied}
use Rattle.script_steps.specs.declared.operation.RegOp.{RegOp}
use Rattle.script_steps.specs.declared.operation.Step.{Step}
use Rattle.script_steps.specs.declared.operation.Step.TheVariants as steps
use Rattle.access_policy.specs.Candidates.{Numbered, candidates_from, concerns, first_of, is_of, op_said, said_of, step_said}
use Rattle.access_policy.specs.Decisions.{access_decision, both, client_matches, decision_from, decision, decisions, has_access}
use Rattle.access_policy.specs.Decisions.{needs_of, op_decision, said, speaks_of, step_decision}
use Rattle.access_policy.specs.Names.{NameItem, items_of}
use Rattle.access_policy.specs.Patterns.{board_matches, items_match}
use Rattle.access_policy.specs.declared.policy.Access.{Access}
use Rattle.access_policy.specs.declared.policy.Access.TheVariants.{Reading, Writing}
use Rattle.access_policy.specs.declared.policy.Rule.{Rule}

by_tests : (a c b i : Bool) (here later : Decision)
    → cond (c && b) (cond (a && i) here later) later ≡ cond (a && (c && (b && i))) here later
by_tests a true true i here later = refl
by_tests true true false i here later = refl
by_tests false true false i here later = refl
by_tests true false b i here later = refl
by_tests false false b i here later = refl

kept : (is : Bool) (access : Access) (items : List NameItem) (candidate : Numbered) (later : List Numbered)
    → first_of access items (cond is (candidate ∷ later) later)
    ≡ cond is (cond (is_of access items candidate.rule) (said candidate.number candidate.rule.effect)
    (first_of access items later)) (first_of access items later)
kept true access items candidate later = refl
kept false access items candidate later = refl

one_access : (access : Access) (client : ℕ) (board : List ℕ) (items : List NameItem) (number : ℕ) (rules : List Rule)
    → first_of access items (candidates_from number rules client board)
    ≡ decision_from (speaks_of access client board items) number rules
one_access access client board items number [] = refl
one_access access client board items number (rule ∷ rules) =
    kept (concerns client board rule) access items (record { number = number; rule = rule })
    (candidates_from (number + 1) rules client board)
    ∙ by_tests (has_access rule.access access) (client_matches rule.client client)
    (board_matches rule.pattern.board board) (items_match rule.pattern.items rule.pattern.rest items)
    (said number rule.effect) (first_of access items (candidates_from (number + 1) rules client board))
    ∙ ap (λ later. cond (speaks_of access client board items rule) (said number rule.effect) later)
    (one_access access client board items (number + 1) rules)

one_use : (policy : List Rule) (client : ℕ) (board name : List ℕ) (needs : Permission)
    → said_of (candidates_from 1 policy client board) (items_of name) needs ≡ decision policy client board name needs
one_use policy client board name R = one_access Reading client board (items_of name) 1 policy
one_use policy client board name W = one_access Writing client board (items_of name) 1 policy
one_use policy client board name Rw =
    ap (λ d. both d (first_of Writing (items_of name) (candidates_from 1 policy client board)))
    (one_access Reading client board (items_of name) 1 policy)
    ∙ ap (both (access_decision policy client board (items_of name) Reading))
    (one_access Writing client board (items_of name) 1 policy)

at_map : {A B : Type 0} (f : A → B) (xs : List A) (i : ℕ) → slice_get (map f xs) i ≡ option_map f (slice_get xs i)
at_map f [] i = refl
at_map f (x ∷ xs) zero = refl
at_map f (x ∷ xs) (suc i) = at_map f xs i

by_board : (policy : List Rule) (client : ℕ) (op : RegOp) (board : Option (List ℕ))
    → option_map_or (λ candidates. said_of candidates (items_of op.name) (needs_of op.verb))
    (option_map (candidates_from 1 policy client) board) (Denied 0)
    ≡ option_map_or (λ board. decision policy client board op.name (needs_of op.verb)) board (Denied 0)
by_board policy client op None = refl
by_board policy client op (Some board) = one_use policy client board op.name (needs_of op.verb)

one_op : (policy : List Rule) (client : ℕ) (boards : List (List ℕ)) (op : RegOp)
    → op_said (map (candidates_from 1 policy client) boards) op ≡ op_decision policy client boards op
one_op policy client boards op =
    ap (λ candidates. option_map_or (λ candidates. said_of candidates (items_of op.name) (needs_of op.verb)) candidates
    (Denied 0)) (at_map (candidates_from 1 policy client) boards op.board)
    ∙ by_board policy client op (slice_get boards op.board)

one_step : (policy : List Rule) (client : ℕ) (boards : List (List ℕ)) (step : Step)
    → step_said (map (candidates_from 1 policy client) boards) step ≡ step_decision policy client boards step
one_step policy client boards (steps.Do op) = one_op policy client boards op
one_step policy client boards (steps.Denied rule op) = one_op policy client boards op
one_step policy client boards steps.Dispatch = refl

-- what the rules of each board say of steps
pub all_steps : (policy : List Rule) (client : ℕ) (boards : List (List ℕ)) (all : List Step)
    → map (step_said (map (candidates_from 1 policy client) boards)) all ≡ decisions policy client boards all
all_steps policy client boards [] = refl
all_steps policy client boards (step ∷ all) =
    ap (λ d. d ∷ map (step_said (map (candidates_from 1 policy client) boards)) all) (one_step policy client boards step)
    ∙ ap (λ ds. step_decision policy client boards step ∷ ds) (all_steps policy client boards all)
