-- Reading scripts line by line gives their steps, or stops at their first fault.
use Rattle.std.proofs.Common.{◌≡◌, ℕ, ◌+◌, List, [], ◌∷◌, ◌++◌, Bool, true, false, Option, Some, None, option_to_list}
use Rattle.std.proofs.Common.{Result, Ok, Err, slice_get, refl, sym, ap, ◌∙◌, subst, arith}
use Rattle.std.specs.List.{cons_option}
use Rattle.std.specs.Option.{option_map_or}
use Rattle.std.proofs.lemmas.List.{append_assoc, append-nil}
use Rattle.std.proofs.lemmas.List.Sums.{sum_by-append}
use Rattle.std.proofs.Math.ListN.{length-append}
use Rattle.board_specs.specs.declared.spec.BoardSpec.{BoardSpec}
use Rattle.node_tree.specs.Maps.{RegisterMap}
use Rattle.script_steps.specs.declared.operation.Step.{Step}
use Rattle.script_lang.specs.declared.tally.Tally.{Tally}
use Rattle.script_lang.specs.declared.script_refusal.ScriptWhy.{ScriptWhy}
use Rattle.script_lang.specs.declared.script_refusal.ScriptRefusal.{ScriptRefusal}
use Rattle.script_lang.specs.declared.script_refusal.ScriptRefusal.TheVariants.{At, NoMemory}
use Rattle.script_lang.specs.Operations.{meaning}
use Rattle.script_lang.specs.Scripts.{ScriptLine, lines_from, all_lines, LineFault, operations_in, block_words_in}
use Rattle.script_lang.specs.Scripts.{Meaning, count_in, is_over, line_meaning, tally_of, broken_by, faults_after}
use Rattle.script_lang.specs.Scripts.{script_faults, steps_from, steps_of, TellsLine}
use Rattle.script_lang.specs.Tallies.{with_step, Run, line_run, joined_run, then_run, with_steps_before, then_all, run_from}
use Rattle.script_lang.specs.Tallies.{run_all, StopsAs, nothing}

first_front : (xs ys : List LineFault) (f : LineFault) → slice_get xs 0 ≡ Some f → slice_get (xs ++ ys) 0 ≡ Some f
first_front [] ys f h = cc
first_front (x ∷ xs) ys f h = h

-- the fault of a line, if it has one
abbrev fault_list : ScriptLine → Option ScriptWhy → List LineFault
fault_list line why = option_map_or (λ w. (line.client, line.number, w) ∷ []) why []

zero_plus : (n : ℕ) → 0 + n ≡ n
zero_plus n = omega arith

module _ (boards : List BoardSpec) (indexes : List RegisterMap) where
  -- what a run of some lines tells of them, where others stand before them
  abbrev TellsLines : ℕ → ℕ → List (List ℕ) → List ScriptLine → Run → Type 0
  TellsLines client number texts earlier (Ok run) =
      (faults_after boards indexes earlier (lines_from client number texts) ≡ [])
      × (run.0 ≡ steps_from boards indexes number texts)
      × (run.1 ≡ tally_of boards indexes (earlier ++ lines_from client number texts))
  TellsLines client number texts earlier (Err fault) =
      slice_get (faults_after boards indexes earlier (lines_from client number texts)) 0 ≡ Some fault

  tally-more : (earlier : List ScriptLine) (line : ScriptLine) (step : Option Step)
      → line_meaning boards indexes line ≡ Ok step
      → tally_of boards indexes (earlier ++ line ∷ []) ≡ with_step (tally_of boards indexes earlier) step
  tally-more earlier line step means =
      rw (
        length-append earlier (line ∷ []),
        sum_by-append (λ l. count_in operations_in (line_meaning boards indexes l)) earlier (line ∷ []),
        sum_by-append (λ l. count_in block_words_in (line_meaning boards indexes l)) earlier (line ∷ []),
        means,
      )
      (rw (zero_plus (operations_in step), zero_plus (block_words_in step)) refl)

  abbrev line_at : ℕ → ℕ → List ℕ → ScriptLine
  line_at client number text = record { client = client; number = number; text = text }

  next_first : (step : Option Step) (xs : List Step) → option_to_list step ++ xs ≡ cons_option step xs
  next_first None xs = refl
  next_first (Some step) xs = refl

  -- one more line at the front, which has no fault
  with_line : (client number : ℕ) (text : List ℕ) (texts : List (List ℕ)) (earlier : List ScriptLine)
      (step : Option Step) (run : Run)
      → meaning boards indexes number text ≡ Ok step
      → is_over (tally_of boards indexes (earlier ++ line_at client number text ∷ [])) ≡ false
      → TellsLines client (number + 1) texts (earlier ++ line_at client number text ∷ []) run
      → TellsLines client number (text ∷ texts) earlier (joined_run (option_to_list step) run)
  with_line client number text texts earlier step (Ok run) means within_it told = (
    rw (means, within_it) told.0,
    ap (λ xs. option_to_list step ++ xs) told.1 ∙ next_first step (steps_from boards indexes (number + 1) texts)
        ∙ rw means refl,
    told.2 ∙ ap (tally_of boards indexes)
        (append_assoc earlier (line_at client number text ∷ []) (lines_from client (number + 1) texts)),
  )
  with_line client number text texts earlier step (Err fault) means within_it told = rw (means, within_it) told

  abbrev Follows : ℕ → ℕ → List (List ℕ) → Type 0
  Follows client number texts =
      (tally : Tally) (earlier : List ScriptLine) → tally ≡ tally_of boards indexes earlier
      → TellsLines client number texts earlier (run_from boards indexes client tally number texts)

  at_step : (client number : ℕ) (text : List ℕ) (texts : List (List ℕ)) (tally : Tally) (earlier : List ScriptLine)
      (step : Option Step) (over : Bool)
      → meaning boards indexes number text ≡ Ok step
      → with_step tally step ≡ tally_of boards indexes (earlier ++ line_at client number text ∷ [])
      → is_over (with_step tally step) ≡ over → Follows client (number + 1) texts
      → TellsLines client number (text ∷ texts) earlier
      (then_run (line_run client number tally (Ok step))
      (λ next. run_from boards indexes client next (number + 1) texts))
  at_step client number text texts tally earlier step true means same over follows =
      let above : is_over (tally_of boards indexes (earlier ++ line_at client number text ∷ [])) ≡ true =
      subst (λ t. is_over t ≡ true) same over in
      rw over (rw (means, above) refl)
  at_step client number text texts tally earlier step false means same over follows =
      rw over
      (with_line client number text texts earlier step
      (run_from boards indexes client (with_step tally step) (number + 1) texts) means
      (subst (λ t. is_over t ≡ false) same over)
      (follows (with_step tally step) (earlier ++ line_at client number text ∷ []) same))

  at_meaning : (client number : ℕ) (text : List ℕ) (texts : List (List ℕ)) (tally : Tally) (earlier : List ScriptLine)
      (m : Meaning)
      → meaning boards indexes number text ≡ m → tally ≡ tally_of boards indexes earlier
      → Follows client (number + 1) texts
      → TellsLines client number (text ∷ texts) earlier
      (then_run (line_run client number tally m) (λ next. run_from boards indexes client next (number + 1) texts))
  at_meaning client number text texts tally earlier (Err why) means same follows = rw means refl
  at_meaning client number text texts tally earlier (Ok step) means same follows =
      at_step client number text texts tally earlier step (is_over (with_step tally step)) means
      (ap (λ t. with_step t step) same ∙ sym (tally-more earlier (line_at client number text) step means)) refl follows

  pub tells : (client number : ℕ) (texts : List (List ℕ)) → Follows client number texts
  tells client number [] tally earlier same =
      (refl, refl, same ∙ ap (tally_of boards indexes) (sym (append-nil earlier)))
  tells client number (text ∷ texts) tally earlier same =
      at_meaning client number text texts tally earlier (meaning boards indexes number text) refl same
      (λ next lines is. tells client (number + 1) texts next lines is)

  faults_after-append : (earlier xs ys : List ScriptLine)
      → faults_after boards indexes earlier (xs ++ ys) ≡ faults_after boards indexes earlier xs
      ++ faults_after boards indexes (earlier ++ xs) ys
  faults_after-append earlier [] ys = ap (λ e. faults_after boards indexes e ys) (sym (append-nil earlier))
  faults_after-append earlier (x ∷ xs) ys =
      let here = fault_list x (broken_by boards indexes (earlier ++ x ∷ []) (line_meaning boards indexes x)) in
      ap (λ rest. here ++ rest) (faults_after-append (earlier ++ x ∷ []) xs ys)
      ∙ sym (append_assoc here (faults_after boards indexes (earlier ++ x ∷ []) xs)
      (faults_after boards indexes ((earlier ++ x ∷ []) ++ xs) ys))
      ∙ ap (λ e. (here ++ faults_after boards indexes (earlier ++ x ∷ []) xs) ++ faults_after boards indexes e ys)
      (append_assoc earlier (x ∷ []) xs)

  -- what a run of all scripts tells
  abbrev TellsAll : ℕ → List (List (List ℕ)) → List ScriptLine → Result (List (List Step)) LineFault → Type 0
  TellsAll client scripts earlier (Ok all) =
      (faults_after boards indexes earlier (all_lines client scripts) ≡ []) × (all ≡ steps_of boards indexes scripts)
  TellsAll client scripts earlier (Err fault) =
      slice_get (faults_after boards indexes earlier (all_lines client scripts)) 0 ≡ Some fault

  with_script : (client : ℕ) (script : List (List ℕ)) (scripts : List (List (List ℕ))) (earlier : List ScriptLine)
      (steps : List Step)
      (rest : Result (List (List Step)) LineFault)
      → faults_after boards indexes earlier (lines_from client 1 script) ≡ []
      → steps ≡ steps_from boards indexes 1 script
      → TellsAll (client + 1) scripts (earlier ++ lines_from client 1 script) rest
      → TellsAll client (script ∷ scripts) earlier (with_steps_before (steps ∷ []) rest)
  with_script client script scripts earlier steps (Ok all) none same told = (
    faults_after-append earlier (lines_from client 1 script) (all_lines (client + 1) scripts) ∙ rw none told.0,
    rw (same, told.1) refl,
  )
  with_script client script scripts earlier steps (Err fault) none same told =
      ap (λ fs. slice_get fs 0)
      (faults_after-append earlier (lines_from client 1 script) (all_lines (client + 1) scripts)) ∙ rw none told

  at_script : (client : ℕ) (script : List (List ℕ)) (scripts : List (List (List ℕ))) (earlier : List ScriptLine)
      (run : Run)
      → TellsLines client 1 script earlier run
      → ((tally : Tally) (lines : List ScriptLine) → tally ≡ tally_of boards indexes lines
      → TellsAll (client + 1) scripts lines (run_all boards indexes (client + 1) tally scripts))
      → TellsAll client (script ∷ scripts) earlier
      (then_all run (λ next. run_all boards indexes (client + 1) next scripts))
  at_script client script scripts earlier (Ok run) told follows =
      with_script client script scripts earlier run.0 (run_all boards indexes (client + 1) run.1 scripts) told.0 told.1
      (follows run.1 (earlier ++ lines_from client 1 script) told.2)
  at_script client script scripts earlier (Err fault) told follows =
      ap (λ fs. slice_get fs 0)
      (faults_after-append earlier (lines_from client 1 script) (all_lines (client + 1) scripts))
      ∙ first_front (faults_after boards indexes earlier (lines_from client 1 script))
      (faults_after boards indexes (earlier ++ lines_from client 1 script) (all_lines (client + 1) scripts)) fault told

  tells_all : (client : ℕ) (scripts : List (List (List ℕ))) (tally : Tally) (earlier : List ScriptLine)
      → tally ≡ tally_of boards indexes earlier
      → TellsAll client scripts earlier (run_all boards indexes client tally scripts)
  tells_all client [] tally earlier same = (refl, refl)
  tells_all client (script ∷ scripts) tally earlier same =
      at_script client script scripts earlier (run_from boards indexes client tally 1 script)
      (tells client 1 script tally earlier same)
      (λ next lines is. tells_all (client + 1) scripts next lines is)

  -- a run of all scripts that ends has their steps, and none of them has a fault
  pub all_told : (scripts : List (List (List ℕ))) (all : List (List Step))
      → run_all boards indexes 1 nothing scripts ≡ Ok all
      → (script_faults boards indexes scripts ≡ []) × (all ≡ steps_of boards indexes scripts)
  all_told scripts all ends = subst (TellsAll 1 scripts []) ends (tells_all 1 scripts nothing [] refl)

  pub stop_told : (scripts : List (List (List ℕ))) (refusal : ScriptRefusal)
      → StopsAs (run_all boards indexes 1 nothing scripts) refusal
      → TellsLine (slice_get (script_faults boards indexes scripts) 0) refusal
  stop_told scripts (At client line why) stops =
      subst (TellsAll 1 scripts []) stops (tells_all 1 scripts nothing [] refl)
  stop_told scripts NoMemory stops = tt
