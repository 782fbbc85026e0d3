-- The scripts of a session as steps, and the first faulty line of those that have one. Profile.
use Rattle.std.specs.Prelude.{◌≡◌, ℕ, ◌+◌, nat_lt, Bool, true, false, ◌||◌, if◌then◌else◌, List, [], ◌∷◌, ◌++◌, length}
use Rattle.std.specs.Prelude.{map, sum_by, Option, Some, None, Result, Ok, Err}
use Rattle.std.specs.List.{filter_map}
use Rattle.std.specs.Option.{option_map_or}
use Rattle.board_specs.specs.declared.spec.BoardSpec.{BoardSpec}
use Rattle.node_tree.specs.Maps.{RegisterMap}
use Rattle.transaction_codec.specs.Request.{op_count}
use Rattle.script_steps.specs.declared.operation.Step.{Step}
use Rattle.script_steps.specs.declared.operation.Step.TheVariants.{Do, Denied, Dispatch}
use Rattle.script_lang.specs.declared.tally.Tally.{Tally}
use Rattle.script_steps.specs.declared.operation.Verb.{Verb}
use Rattle.script_steps.specs.declared.operation.Verb.TheVariants.{ReadBlock, WriteBlock}
use Rattle.script_lang.specs.declared.script_refusal.ScriptWhy.{ScriptWhy}
use Rattle.script_lang.specs.declared.script_refusal.ScriptWhy.TheVariants.{TooMany}
use Rattle.script_lang.specs.declared.script_refusal.ScriptRefusal.{ScriptRefusal}
use Rattle.script_lang.specs.declared.script_refusal.ScriptRefusal.TheVariants.{At, NoMemory}
use Rattle.script_steps.specs.declared.limits.TheConstants.{MAX_OPERATIONS, MAX_BLOCK_WORDS}
use Rattle.script_lang.specs.declared.script_refusal.TheConstants.{MAX_LINES}
use Rattle.script_lang.specs.Operations.{meaning}

-- a line of a client, both counted from 1
pub record ScriptLine : Type 0 where
  pub client : ℕ
  pub number : ℕ
  pub text : List ℕ

-- the lines of a client, from a number on
abbrev pub lines_from : ℕ → ℕ → List (List ℕ) → List ScriptLine
lines_from client number [] = []
lines_from client number (text ∷ texts) =
    record { client = client; number = number; text = text } ∷ lines_from client (number + 1) texts

-- the lines of all clients from a number on, in order
abbrev pub all_lines : ℕ → List (List (List ℕ)) → List ScriptLine
all_lines client [] = []
all_lines client (script ∷ scripts) = lines_from client 1 script ++ all_lines (client + 1) scripts

-- a fault: the numbers of the client and the line, and the rule
abbrev pub LineFault : Type 0
LineFault = ℕ × ℕ × ScriptWhy

abbrev pub operations_in : Option Step → ℕ
operations_in None = 0
operations_in (Some Dispatch) = 0
operations_in (Some (Do op)) = 1
operations_in (Some (Denied rule op)) = 1

abbrev pub is_block : Verb → Bool
is_block ReadBlock = true
is_block WriteBlock = true
is_block _ = false

-- the words in block operations
abbrev pub block_words_in : Option Step → ℕ
block_words_in None = 0
block_words_in (Some Dispatch) = 0
block_words_in (Some (Do op)) = if is_block op.verb then op_count op.op else 0
block_words_in (Some (Denied rule op)) = if is_block op.verb then op_count op.op else 0

abbrev pub Meaning : Type 0
Meaning = Result (Option Step) ScriptWhy

-- a count of the step, none where the line is faulty
abbrev pub count_in : (Option Step → ℕ) → Meaning → ℕ
count_in count (Ok step) = count step
count_in count (Err why) = 0

-- more lines, operations or words in block operations than a session may have
abbrev pub is_over : Tally → Bool
is_over tally =
    (nat_lt MAX_LINES tally.lines || nat_lt MAX_OPERATIONS tally.operations) || nat_lt MAX_BLOCK_WORDS tally.words

module _ (boards : List BoardSpec) (indexes : List RegisterMap) where
  abbrev pub line_meaning : ScriptLine → Meaning
  line_meaning line = meaning boards indexes line.number line.text

  abbrev pub count_of : (Option Step → ℕ) → List ScriptLine → ℕ
  count_of count lines = sum_by (λ line. count_in count (line_meaning line)) lines

  -- how much some lines are together
  abbrev pub tally_of : List ScriptLine → Tally
  tally_of lines =
      record { lines = length lines; operations = count_of operations_in lines; words = count_of block_words_in lines }

  -- the first rule that the last of some lines breaks
  abbrev pub broken_by : List ScriptLine → Meaning → Option ScriptWhy
  broken_by lines (Err why) = Some why
  broken_by lines (Ok step) = if is_over (tally_of lines) then Some TooMany else None

  -- all faults, each with the numbers of its client and its line, where other lines stand before these
  abbrev pub faults_after : List ScriptLine → List ScriptLine → List LineFault
  faults_after earlier [] = []
  faults_after earlier (line ∷ lines) =
      option_map_or
      (λ why. (line.client, line.number, why) ∷ [])
      (broken_by (earlier ++ line ∷ []) (line_meaning line))
      []
      ++ faults_after (earlier ++ line ∷ []) lines

  -- all faults of some scripts
  abbrev pub script_faults : List (List (List ℕ)) → List LineFault
  script_faults scripts = faults_after [] (all_lines 1 scripts)

  abbrev pub step_in : Meaning → Option Step
  step_in (Ok step) = step
  step_in (Err why) = None

  -- the steps of a script, line by line
  abbrev pub steps_from : ℕ → List (List ℕ) → List Step
  steps_from number script = filter_map (λ line. step_in (line_meaning line)) (lines_from 1 number script)

  abbrev pub steps_of : List (List (List ℕ)) → List (List Step)
  steps_of scripts = map (steps_from 1) scripts

-- a refusal tells this fault, want of memory aside
abbrev pub TellsLine : Option LineFault → ScriptRefusal → Type 0
TellsLine fault (At client line why) = fault ≡ Some (client, line, why)
TellsLine fault NoMemory = Unit {0}
