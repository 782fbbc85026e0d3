-- How the code counts line by line. No public clause speaks of it.
use Rattle.std.specs.Prelude.{◌≡◌, ℕ, ◌+◌, if◌then◌else◌, List, [], ◌∷◌, ◌++◌, Option, Some, None, option_to_list}
use Rattle.std.specs.Prelude.{Result, Ok, Err}
use Rattle.board_specs.specs.declared.spec.BoardSpec.{BoardSpec}
use Rattle.node_tree.specs.Maps.{RegisterMap}
use Rattle.script_lang.specs.declared.script_refusal.ScriptWhy.TheVariants.{TooMany}
use Rattle.script_lang.specs.declared.script_refusal.ScriptRefusal.{ScriptRefusal}
use Rattle.script_lang.specs.declared.script_refusal.ScriptRefusal.TheVariants.{At, NoMemory}
use Rattle.script_lang.specs.Operations.{meaning}
use Rattle.script_steps.specs.declared.operation.Step.{Step}
use Rattle.script_lang.specs.declared.tally.Tally.{Tally}
use Rattle.script_lang.specs.Scripts.{operations_in, block_words_in, is_over, Meaning, LineFault}

-- one line more, which means this step
abbrev pub with_step : Tally → Option Step → Tally
with_step tally step = record {
  lines = tally.lines + 1;
  operations = tally.operations + operations_in step;
  words = tally.words + block_words_in step;
}

-- what a session may have
abbrev pub within : Tally → Option Tally
within tally = if is_over tally then None else Some tally

-- a fault, or what was read
abbrev pub Run : Type 0
Run = Result (List Step × Tally) LineFault

abbrev pub counted_step : ℕ → ℕ → Option Step → Option Tally → Result (Option Step × Tally) LineFault
counted_step client number step None = Err (client, number, TooMany)
counted_step client number step (Some tally) = Ok (step, tally)

-- the step of a line that means this, and the tally after it
abbrev pub line_run : ℕ → ℕ → Tally → Meaning → Result (Option Step × Tally) LineFault
line_run client number tally (Err why) = Err (client, number, why)
line_run client number tally (Ok step) = counted_step client number step (within (with_step tally step))

-- steps before those of a run
abbrev pub joined_run : List Step → Run → Run
joined_run steps (Ok run) = Ok (steps ++ run.0, run.1)
joined_run steps (Err fault) = Err fault

abbrev pub then_run : Result (Option Step × Tally) LineFault → (Tally → Run) → Run
then_run (Err fault) rest = Err fault
then_run (Ok next) rest = joined_run (option_to_list next.0) (rest next.1)

abbrev pub with_steps_before : List (List Step) → Result (List (List Step)) LineFault → Result (List (List Step)) LineFault
with_steps_before steps (Ok run) = Ok (steps ++ run)
with_steps_before steps (Err fault) = Err fault

abbrev pub then_all : Run → (Tally → Result (List (List Step)) LineFault) → Result (List (List Step)) LineFault
then_all (Err fault) rest = Err fault
then_all (Ok run) rest = with_steps_before (run.0 ∷ []) (rest run.1)

module _ (boards : List BoardSpec) (indexes : List RegisterMap) where
  -- the lines of a client, from a number on, after lines of this tally
  abbrev pub run_from : ℕ → Tally → ℕ → List (List ℕ) → Run
  run_from client tally number [] = Ok ([], tally)
  run_from client tally number (text ∷ texts) =
      then_run
      (line_run client number tally (meaning boards indexes number text))
      (λ next. run_from client next (number + 1) texts)

  -- all clients from a number on
  abbrev pub run_all : ℕ → Tally → List (List (List ℕ)) → Result (List (List Step)) LineFault
  run_all client tally [] = Ok []
  run_all client tally (script ∷ scripts) =
      then_all (run_from client tally 1 script) (λ next. run_all (client + 1) next scripts)

-- a refusal tells where a run stops, want of memory aside
abbrev pub StopsAs : {X : Type 0} → Result X LineFault → ScriptRefusal → Type 0
StopsAs run (At client line why) = run ≡ Err (client, line, why)
StopsAs run NoMemory = Unit {0}

abbrev pub nothing : Tally
nothing = record { lines = 0; operations = 0; words = 0 }
