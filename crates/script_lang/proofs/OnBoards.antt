-- The operations of scripts are on the boards of their session.
use Rattle.std.proofs.Common.{◌≡◌, ℕ, ◌+◌, ◌<◌, List, [], ◌∷◌, Bool, true, false, if◌then◌else◌, length, Option, Some, None}
use Rattle.std.proofs.Common.{Ok, Err, refl, arith}
use Rattle.std.specs.List.{AllByRecursion, cons_option}
use Rattle.std.specs.Str.{bytes_eq}
use Rattle.std.proofs.lemmas.Option.{same_Some}
use Rattle.address_table.specs.Rules.{first_broken}
use Rattle.board_specs.specs.declared.spec.BoardSpec.{BoardSpec}
use Rattle.node_tree.specs.Maps.{RegisterMap}
use Rattle.node_tree.specs.declared.register.Register.{Register}
use Rattle.script_steps.specs.declared.operation.RegOp.{RegOp}
use Rattle.script_steps.specs.declared.operation.Step.{Step}
use Rattle.script_lang.specs.declared.call.Call.{Call}
use Rattle.script_lang.specs.declared.call.Command.{Command}
use Rattle.script_lang.specs.declared.call.Command.TheVariants as says
use Rattle.script_lang.specs.declared.script_refusal.ScriptWhy.{ScriptWhy}
use Rattle.script_lang.specs.Lines.{command_of, words}
use Rattle.script_lang.specs.OnBoards.{StepIsOn, StepsAreOn}
use Rattle.script_lang.specs.Operations.{as_step, board_from, by_rules, meaning, register_at, step_of, use_at, use_on}
use Rattle.script_lang.specs.Operations.{use_rules}
use Rattle.script_lang.specs.Scripts.{Meaning, step_in, steps_from, steps_of}

-- ---- one line

abbrev MeansOn : ℕ → Meaning → Type 0
MeansOn boards (Ok (Some step)) = StepIsOn boards step
MeansOn boards (Ok None) = Unit {0}
MeansOn boards (Err why) = Unit {0}

picked : (here : Bool) (i b later : ℕ) (rest : Option ℕ) → (if here then Some i else rest) ≡ Some b
    → (rest ≡ Some b → b < (i + 1) + later) → b < i + (later + 1)
picked true i b later rest is below = let same = same_Some i b is in omega arith
picked false i b later rest is below = let less = below is in omega arith

board_below : (i : ℕ) (name : List ℕ) (boards : List BoardSpec) (b : ℕ) → board_from i name boards ≡ Some b
    → b < i + length boards
board_below i name [] b is = absurd cc
board_below i name (board ∷ boards) b is =
    let less =
    picked (bytes_eq board.name name) i b (length boards) (board_from (i + 1) name boards) is
    (board_below (i + 1) name boards b) in omega arith

rules_on : (boards : ℕ) (broken : Option ScriptWhy) (op : RegOp) → op.board < boards
    → MeansOn boards (as_step (by_rules broken op))
rules_on boards None op below = below
rules_on boards (Some why) op below = tt

use_at_on : (boards line board : ℕ) (call : Call) (found : Option Register) → board < boards
    → MeansOn boards (as_step (use_at line board call found))
use_at_on boards line board call None below = tt
use_at_on boards line board call (Some r) below = rules_on boards (first_broken (use_rules r call)) _ below

use_on_on : (boards : ℕ) (indexes : List RegisterMap) (line : ℕ) (call : Call) (found : Option ℕ)
    → ((b : ℕ) → found ≡ Some b → b < boards) → MeansOn boards (as_step (use_on indexes line call found))
use_on_on boards indexes line call None below = tt
use_on_on boards indexes line call (Some board) below =
    use_at_on boards line board call (register_at indexes board call.name) (below board refl)

command_on : (boards : List BoardSpec) (indexes : List RegisterMap) (line : ℕ) (command : Option Command)
    → MeansOn (length boards) (step_of boards indexes line command)
command_on boards indexes line None = tt
command_on boards indexes line (Some says.Nothing) = tt
command_on boards indexes line (Some says.Dispatch) = tt
command_on boards indexes line (Some (says.Ask call)) =
    use_on_on (length boards) indexes line call (board_from 0 call.board boards) (λ b is. let below = board_below 0 call.board boards b is in omega arith)

-- ---- all lines

module _ (boards : List BoardSpec) (indexes : List RegisterMap) where
  one_step : (m : Meaning) (steps : List Step) → MeansOn (length boards) m → StepsAreOn (length boards) steps
      → StepsAreOn (length boards) (cons_option (step_in boards indexes m) steps)
  one_step (Ok (Some step)) steps on are = (on, are)
  one_step (Ok None) steps on are = are
  one_step (Err why) steps on are = are

  script_on : (number : ℕ) (script : List (List ℕ))
      → StepsAreOn (length boards) (steps_from boards indexes number script)
  script_on number [] = tt
  script_on number (text ∷ script) =
      one_step (meaning boards indexes number text) (steps_from boards indexes (number + 1) script)
      (command_on boards indexes number (command_of (words text))) (script_on (number + 1) script)

  pub scripts_on : (scripts : List (List (List ℕ)))
      → AllByRecursion (StepsAreOn (length boards)) (steps_of boards indexes scripts)
  scripts_on [] = tt
  scripts_on (script ∷ scripts) = (script_on 1 script, scripts_on scripts)
