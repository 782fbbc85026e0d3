-- No operation that the scripts of a session ask for, denied or not, has a line feed in its name.
use Rattle.std.proofs.Common.{◌≡◌, ℕ, zero, suc, ◌+◌, Bool, true, false, if◌then◌else◌, List, [], ◌∷◌, codes}
use Rattle.std.proofs.Common.{Option, Some, None, Ok, Err, refl, subst}
use Rattle.std.specs.List.{AllByRecursion, cons_option, slice_get}
use Rattle.std.specs.Option.{option_and_then}
use Rattle.std.specs.FinMap.{get}
use Rattle.std.specs.Str.{bytes_eq}
use Rattle.std.proofs.lemmas.Option.{same_Some}
use Rattle.board_specs.specs.declared.spec.BoardSpec.{BoardSpec}
use Rattle.node_tree.specs.Maps.{RegisterMap}
use Rattle.node_tree.specs.declared.register.Register.{Register}
use Rattle.script_steps.specs.Rulings.{Asked, asked_operations, steps_under_policy, ruled_step}
use Rattle.script_steps.specs.declared.operation.Decision.{Decision}
use Rattle.script_steps.specs.declared.operation.Decision.TheVariants as decision
use Rattle.script_steps.specs.declared.operation.RegOp.{RegOp}
use Rattle.script_steps.specs.declared.operation.Step.{Step}
use Rattle.script_steps.specs.declared.operation.Step.TheVariants.{Do, Denied, Dispatch}
use Rattle.script_steps.specs.declared.operation.Verb.{Verb}
use Rattle.script_lang.specs.declared.script_refusal.ScriptWhy.{ScriptWhy}
use Rattle.script_lang.specs.Lines.{call_of, command_of, dispatch_of, is_comment, numbers_of, takes, verb_named, words}
use Rattle.script_lang.specs.Texts.{◌>>=◌, cut_at}
use Rattle.script_lang.specs.Operations.{as_step, board_from, by_rules, meaning, register_at, step_of}
use Rattle.script_lang.specs.Scripts.{Meaning, step_in, steps_from, steps_of}
use Rattle.transcript_reader.specs.Shown.{IsOneLine}
use Rattle.audit_laws.proofs.SessionBoards.{HasLineNames}

-- an operation, denied or not, has a name without a line feed
abbrev pub HasLineName : Step → Type 0
HasLineName (Do op) = IsOneLine op.name
HasLineName (Denied rule op) = IsOneLine op.name
HasLineName Dispatch = Unit {0}

-- ---- registers

index_at : (indexes : List RegisterMap) (k : ℕ) (index : RegisterMap) → AllByRecursion HasLineNames indexes
    → slice_get indexes k ≡ Some index → HasLineNames index
index_at [] k index all at = absurd cc
index_at (other ∷ indexes) zero index all at = subst HasLineNames (same_Some other index at) all.0
index_at (other ∷ indexes) (suc k) index all at = index_at indexes k index all.1 at

found_named : (indexes : List RegisterMap) (board : ℕ) (name : List ℕ) (found : Option RegisterMap) (r : Register)
    → AllByRecursion HasLineNames indexes → slice_get indexes board ≡ found
    → option_and_then (λ (index : RegisterMap). get index name) found ≡ Some r → IsOneLine name
found_named indexes board name None r all at there = absurd cc
found_named indexes board name (Some index) r all at there = index_at indexes board index all at name r there

-- ---- one line

abbrev MeansLineName : Meaning → Type 0
MeansLineName (Ok (Some step)) = HasLineName step
MeansLineName (Ok None) = Unit {0}
MeansLineName (Err why) = Unit {0}

rules_named : (broken : Option ScriptWhy) (op : RegOp) → IsOneLine op.name → MeansLineName (as_step (by_rules broken op))
rules_named None op one = one
rules_named (Some why) op one = tt

module _ (boards : List BoardSpec) (indexes : List RegisterMap) (named : AllByRecursion HasLineNames indexes) where
  module _ (line : ℕ) (verb : Verb) (place : List ℕ) (words : List (List ℕ)) where
    on_register : (names : List ℕ × List ℕ) (numbers : List ℕ) (board : ℕ) (found : Option Register)
        → cut_at 58 place ≡ Some names → numbers_of words ≡ Some numbers → takes verb numbers ≡ true
        → board_from 0 names.0 boards ≡ Some board → register_at indexes board names.1 ≡ found
        → MeansLineName (step_of boards indexes line (call_of verb (place ∷ words)))
    on_register names numbers board None cut read taken there is = rw (cut, read, taken, there, is) tt
    on_register names numbers board (Some r) cut read taken there is =
        let one = found_named indexes board names.1 (slice_get indexes board) r named refl is in
        rw (cut, read, taken, there, is) (rules_named _ _ one)

    on_board : (names : List ℕ × List ℕ) (numbers : List ℕ) (found : Option ℕ)
        → cut_at 58 place ≡ Some names → numbers_of words ≡ Some numbers → takes verb numbers ≡ true
        → board_from 0 names.0 boards ≡ found
        → MeansLineName (step_of boards indexes line (call_of verb (place ∷ words)))
    on_board names numbers None cut read taken there = rw (cut, read, taken, there) tt
    on_board names numbers (Some board) cut read taken there =
        on_register names numbers board (register_at indexes board names.1) cut read taken there refl

    by_taken : (names : List ℕ × List ℕ) (numbers : List ℕ) (taken : Bool)
        → cut_at 58 place ≡ Some names → numbers_of words ≡ Some numbers → takes verb numbers ≡ taken
        → MeansLineName (step_of boards indexes line (call_of verb (place ∷ words)))
    by_taken names numbers false cut read taken = rw (cut, read, taken) tt
    by_taken names numbers true cut read taken =
        on_board names numbers (board_from 0 names.0 boards) cut read taken refl

    by_numbers : (names : List ℕ × List ℕ) (found : Option (List ℕ))
        → cut_at 58 place ≡ Some names → numbers_of words ≡ found
        → MeansLineName (step_of boards indexes line (call_of verb (place ∷ words)))
    by_numbers names None cut read = rw (cut, read) tt
    by_numbers names (Some numbers) cut read = by_taken names numbers (takes verb numbers) cut read refl

    by_names : (found : Option (List ℕ × List ℕ)) → cut_at 58 place ≡ found
        → MeansLineName (step_of boards indexes line (call_of verb (place ∷ words)))
    by_names None cut = rw cut tt
    by_names (Some names) cut = by_numbers names (numbers_of words) cut refl

  call_named : (line : ℕ) (verb : Verb) (words : List (List ℕ))
      → MeansLineName (step_of boards indexes line (call_of verb words))
  call_named line verb [] = tt
  call_named line verb (place ∷ words) = by_names line verb place words (cut_at 58 place) refl

  dispatch_named : (line : ℕ) (words : List (List ℕ)) → MeansLineName (step_of boards indexes line (dispatch_of words))
  dispatch_named line [] = tt
  dispatch_named line (word ∷ words) = tt

  verb_means : (line : ℕ) (words : List (List ℕ)) (found : Option Verb)
      → MeansLineName (step_of boards indexes line (found >>= λ verb. call_of verb words))
  verb_means line words None = tt
  verb_means line words (Some verb) = call_named line verb words

  word_means : (line : ℕ) (word : List ℕ) (words : List (List ℕ)) (dispatch : Bool)
      → MeansLineName (step_of boards indexes line (if dispatch then dispatch_of words
      else (verb_named word >>= λ verb. call_of verb words)))
  word_means line word words true = dispatch_named line words
  word_means line word words false = verb_means line words (verb_named word)

  first_means : (line : ℕ) (word : List ℕ) (words : List (List ℕ)) (comment : Bool) → is_comment word ≡ comment
      → MeansLineName (step_of boards indexes line (command_of (word ∷ words)))
  first_means line word words true is = rw is tt
  first_means line word words false is = rw is (word_means line word words (bytes_eq word (codes "dispatch")))

  line_named : (line : ℕ) (words : List (List ℕ)) → MeansLineName (step_of boards indexes line (command_of words))
  line_named line [] = tt
  line_named line (word ∷ words) = first_means line word words (is_comment word) refl

  one_step : (m : Meaning) (steps : List Step) → MeansLineName m → AllByRecursion HasLineName steps
      → AllByRecursion HasLineName (cons_option (step_in boards indexes m) steps)
  one_step (Ok (Some step)) steps one are = (one, are)
  one_step (Ok None) steps one are = are
  one_step (Err why) steps one are = are

  script_named : (number : ℕ) (script : List (List ℕ))
      → AllByRecursion HasLineName (steps_from boards indexes number script)
  script_named number [] = tt
  script_named number (text ∷ script) =
      one_step (meaning boards indexes number text) (steps_from boards indexes (number + 1) script)
      (line_named number (words text)) (script_named (number + 1) script)

  pub scripts_named : (scripts : List (List (List ℕ)))
      → AllByRecursion (AllByRecursion HasLineName) (steps_of boards indexes scripts)
  scripts_named [] = tt
  scripts_named (script ∷ scripts) = (script_named 1 script, scripts_named scripts)

-- ---- under a policy

step_ruled : (step : Step) (said : Decision) → HasLineName step → HasLineName (ruled_step step said)
step_ruled (Do op) decision.Allowed one = one
step_ruled (Do op) (decision.Denied rule) one = one
step_ruled (Denied rule op) said one = one
step_ruled Dispatch said one = tt

pub steps_ruled : (steps : List Step) (said : List Decision) → AllByRecursion HasLineName steps
    → AllByRecursion HasLineName (steps_under_policy steps said)
steps_ruled [] said are = tt
steps_ruled (step ∷ steps) [] are = are
steps_ruled (step ∷ steps) (one ∷ said) are = (step_ruled step one are.0, steps_ruled steps said are.1)

-- ---- what is asked

steps_asked : (steps : List Step) → AllByRecursion HasLineName steps
    → AllByRecursion (λ (ask : Asked). IsOneLine ask.op.name) (asked_operations steps)
steps_asked [] are = tt
steps_asked (Do op ∷ steps) are = (are.0, steps_asked steps are.1)
steps_asked (Denied rule op ∷ steps) are = (are.0, steps_asked steps are.1)
steps_asked (Dispatch ∷ steps) are = steps_asked steps are.1

pub all_asked : (scripts : List (List Step)) → AllByRecursion (AllByRecursion HasLineName) scripts
    → AllByRecursion (λ steps. AllByRecursion (λ (ask : Asked). IsOneLine ask.op.name) (asked_operations steps)) scripts
all_asked [] are = tt
all_asked (steps ∷ scripts) are = (steps_asked steps are.0, all_asked scripts are.1)
