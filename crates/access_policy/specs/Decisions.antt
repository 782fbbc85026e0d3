-- What a policy decides: who may do what to which register. The first rule that speaks of an access decides it; names
-- are judged, and not addresses. Profile.
use Rattle.std.specs.Prelude.{ℕ, ◌+◌, ◌==◌, Bool, true, ◌&&◌, if◌then◌else◌, List, [], ◌∷◌, map, Option, Some, None, slice_get}
use Rattle.std.specs.Option.{option_map_or}
use Rattle.address_table.specs.declared.kinds.Permission.{Permission}
use Rattle.address_table.specs.declared.kinds.Permission.TheVariants.{R, W, Rw}
use Rattle.board_specs.specs.declared.spec.BoardSpec.{BoardSpec}
use Rattle.script_lang.specs.Operations.{may_read, may_write}
use Rattle.script_steps.specs.Rulings.{steps_under_policy}
use Rattle.script_steps.specs.declared.operation.Decision.{Decision}
use Rattle.script_steps.specs.declared.operation.Decision.TheVariants.{Allowed, Denied}
use Rattle.script_steps.specs.declared.operation.RegOp.{RegOp}
use Rattle.script_steps.specs.declared.operation.Step.{Step}
use Rattle.script_steps.specs.declared.operation.Step.TheVariants as steps
use Rattle.script_steps.specs.declared.operation.Verb.{Verb}
use Rattle.script_steps.specs.declared.operation.Verb.TheVariants.{Read, Write, ReadBlock, WriteBlock, RmwBits, RmwSum}
use Rattle.access_policy.specs.Names.{NameItem, items_of}
use Rattle.access_policy.specs.Patterns.{pattern_matches}
use Rattle.access_policy.specs.declared.policy.Access.{Access}
use Rattle.access_policy.specs.declared.policy.Access.TheVariants.{Reading, Writing}
use Rattle.access_policy.specs.declared.policy.Effect.{Effect}
use Rattle.access_policy.specs.declared.policy.Effect.TheVariants.{Allow, Deny}
use Rattle.access_policy.specs.declared.policy.Rule.{Rule}

-- ---- one access

-- a permission has this access
abbrev pub has_access : Permission → Access → Bool
has_access permission Reading = may_read permission
has_access permission Writing = may_write permission

-- a permission has each access that is needed
abbrev pub has_all : Permission → Permission → Bool
has_all permission R = has_access permission Reading
has_all permission W = has_access permission Writing
has_all permission Rw = has_access permission Reading && has_access permission Writing

-- every client where no number is said
abbrev pub client_matches : Option ℕ → ℕ → Bool
client_matches client number = option_map_or (λ n. n == number) client true

-- a rule speaks of an access of a client to a register
abbrev pub speaks_of : Access → ℕ → List ℕ → List NameItem → Rule → Bool
speaks_of access client board items rule =
    has_access rule.access access && (client_matches rule.client client && pattern_matches rule.pattern board items)

-- what the rule of a number says
abbrev pub said : ℕ → Effect → Decision
said number Allow = Allowed
said number Deny = Denied number

-- What the first rule that speaks of an access says, where the rules are counted from a number on; an access of which
-- no rule speaks is denied by rule 0.
abbrev pub decision_from : (Rule → Bool) → ℕ → List Rule → Decision
decision_from speaks number [] = Denied 0
decision_from speaks number (rule ∷ rules) =
    if speaks rule then said number rule.effect else decision_from speaks (number + 1) rules

abbrev pub access_decision : List Rule → ℕ → List ℕ → List NameItem → Access → Decision
access_decision policy client board items access = decision_from (speaks_of access client board items) 1 policy

-- ---- what an operation needs

abbrev pub needs_of : Verb → Permission
needs_of Read = R
needs_of Write = W
needs_of ReadBlock = R
needs_of WriteBlock = W
needs_of RmwBits = Rw
needs_of RmwSum = Rw

-- what denies first, of reading and then writing; allowed where both are
abbrev pub both : Decision → Decision → Decision
both Allowed writing = writing
both (Denied rule) writing = Denied rule

-- each access that is needed is allowed
abbrev pub all_needed : Permission → (Access → Decision) → Decision
all_needed R judge = judge Reading
all_needed W judge = judge Writing
all_needed Rw judge = both (judge Reading) (judge Writing)

-- what a policy says of a client that needs this of a register on a board
abbrev pub decision : List Rule → ℕ → List ℕ → List ℕ → Permission → Decision
decision policy client board name needs = all_needed needs (access_decision policy client board (items_of name))

-- ---- the steps of clients

-- what a policy says of an operation, by the name of the board at its position; without such a board no rule speaks of
-- it
abbrev pub op_decision : List Rule → ℕ → List (List ℕ) → RegOp → Decision
op_decision policy client boards op =
    option_map_or
    (λ board. decision policy client board op.name (needs_of op.verb))
    (slice_get boards op.board)
    (Denied 0)

-- an operation that was denied before is judged as if it were not; a dispatch is allowed
abbrev pub step_decision : List Rule → ℕ → List (List ℕ) → Step → Decision
step_decision policy client boards (steps.Do op) = op_decision policy client boards op
step_decision policy client boards (steps.Denied rule op) = op_decision policy client boards op
step_decision policy client boards steps.Dispatch = Allowed

-- what a policy says of the steps of a client, by the names of the boards at their positions
abbrev pub decisions : List Rule → ℕ → List (List ℕ) → List Step → List Decision
decisions policy client boards steps = map (step_decision policy client boards) steps

-- the names of boards
abbrev pub names_of : List BoardSpec → List (List ℕ)
names_of boards = map (λ (board : BoardSpec). board.name) boards

-- the steps of clients under a policy, the clients counted from a number on
abbrev pub ruled_from : List Rule → List (List ℕ) → ℕ → List (List Step) → List (List Step)
ruled_from policy boards client [] = []
ruled_from policy boards client (steps ∷ scripts) =
    steps_under_policy steps (decisions policy client boards steps) ∷ ruled_from policy boards (client + 1) scripts

-- the steps of all clients, from client 1 on; without a policy they stay as they are
abbrev pub ruled_scripts : Option (List Rule) → List (List ℕ) → List (List Step) → List (List Step)
ruled_scripts None boards scripts = scripts
ruled_scripts (Some policy) boards scripts = ruled_from policy boards 1 scripts
