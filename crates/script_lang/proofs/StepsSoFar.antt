-- The steps so far, and those of the lines and the scripts that are left.
use Rattle.std.proofs.Common.{◌≡◌, ℕ, ◌+◌, ◌<◌, ◌≤◌, List, [], ◌∷◌, ◌++◌, length, drop, get_or, Option, Some, None}
use Rattle.std.proofs.Common.{option_to_list, Result, Ok, Err, refl, sym, ap, ◌∙◌, subst, arith}
use Rattle.std.specs.List.{AllByRecursion}
use Rattle.std.specs.Prelude.{IfErr, IfSome, IsErrAnd}
use Rattle.std.proofs.lemmas.List.{append-nil, append_assoc, drop_more}
use Rattle.ipb_base.proofs.AllLemmas.{AllByRecursion-append}
use Rattle.board_specs.specs.declared.spec.BoardSpec.{BoardSpec}
use Rattle.node_tree.specs.Maps.{RegisterMap}
use Rattle.script_lang.proofs.HandedOn.{handed_on}
use Rattle.script_steps.specs.declared.operation.Step.{Step}
use Rattle.script_steps.specs.Packing.{CanBePacked}
use Rattle.script_lang.specs.declared.script_refusal.ScriptRefusal.{ScriptRefusal}
use Rattle.script_lang.specs.declared.script_refusal.ScriptRefusal.TheVariants.{At, NoMemory}
use Rattle.script_lang.specs.declared.tally.Tally.{Tally}
use Rattle.script_lang.specs.Operations.{meaning}
use Rattle.script_lang.specs.Scripts.{LineFault}
use Rattle.script_lang.specs.Tallies.{Run, StopsAs, joined_run, line_run, with_steps_before, run_all, run_from, then_all, then_run}

joined_twice : (steps more : List Step) (run : Run) → joined_run (steps ++ more) run ≡ joined_run steps (joined_run more run)
joined_twice steps more (Ok run) = ap (λ (all : List Step). Ok (all, run.1)) (append_assoc steps more run.0)
joined_twice steps more (Err fault) = refl

prepended_twice : (steps more : List (List Step)) (run : Result (List (List Step)) LineFault)
    → with_steps_before (steps ++ more) run ≡ with_steps_before steps (with_steps_before more run)
prepended_twice steps more (Ok run) = ap (λ (all : List (List Step)). Ok all) (append_assoc steps more run)
prepended_twice steps more (Err fault) = refl

-- what stands at a place is the first of what is left
left_at : {A : Type 0} (xs : List A) (i : ℕ) (item x : A) → i < length xs → item ≡ get_or xs i item → x ≡ item
    → drop i xs ≡ x ∷ drop (i + 1) xs
left_at xs i item x within is same = drop_more xs i item within
    ∙ (ap (λ y. y ∷ drop (i + 1) xs) (sym is) ∙ ap (λ y. y ∷ drop (i + 1) xs) (sym same))

-- a line more, which goes on to this tally
line_on : (boards : List BoardSpec) (indexes : List RegisterMap) (client : ℕ) (steps : List Step) (so_far next : Tally)
    (step : Option Step) (number : ℕ) (text : List ℕ) (texts : List (List ℕ))
    → line_run client number so_far (meaning boards indexes number text) ≡ Ok (step, next)
    → joined_run (steps ++ option_to_list step) (run_from boards indexes client next (number + 1) texts)
    ≡ joined_run steps (run_from boards indexes client so_far number (text ∷ texts))
line_on boards indexes client steps so_far next step number text texts is =
    joined_twice steps (option_to_list step) (run_from boards indexes client next (number + 1) texts)
    ∙ ap (λ (r : Result (Option Step × Tally) LineFault).
    joined_run steps (then_run r (λ tally. run_from boards indexes client tally (number + 1) texts))) (sym is)

pub one_line_more : (boards : List BoardSpec) (indexes : List RegisterMap) (client : ℕ) (steps more : List Step)
    (so_far next : Tally) (step : Option Step) (i : ℕ) (item text : List ℕ) (lines : List (List ℕ))
    → i < length lines → item ≡ get_or lines i item → text ≡ item → more ≡ steps ++ option_to_list step
    → line_run client (i + 1) so_far (meaning boards indexes (i + 1) text) ≡ Ok (step, next)
    → joined_run more (run_from boards indexes client next (i + 1 + 1) (drop (i + 1) lines))
    ≡ joined_run steps (run_from boards indexes client so_far (i + 1) (drop i lines))
one_line_more boards indexes client steps more so_far next step i item text lines within is same grown ran =
    ap (λ (all : List Step). joined_run all (run_from boards indexes client next (i + 1 + 1) (drop (i + 1) lines))) grown
    ∙ (line_on boards indexes client steps so_far next step (i + 1) text (drop (i + 1) lines) ran
    ∙ ap (λ (texts : List (List ℕ)). joined_run steps (run_from boards indexes client so_far (i + 1) texts))
    (sym (left_at lines i item text within is same)))

-- what stops at a line stops there with the steps before it
stops_at_line : (steps : List Step) (line : Result (Option Step × Tally) LineFault) (rest : Tally → Run)
    (refusal : ScriptRefusal) → StopsAs line refusal → StopsAs (joined_run steps (then_run line rest)) refusal
stops_at_line steps line rest (At client number why) stops = ap (λ run. joined_run steps (then_run run rest)) stops
stops_at_line steps line rest NoMemory stops = tt

pub stopped_at_line : {X : Type 0} (boards : List BoardSpec) (indexes : List RegisterMap) (client : ℕ)
    (steps : List Step) (so_far : Tally) (i : ℕ) (item text : List ℕ) (lines : List (List ℕ))
    (result : Result X ScriptRefusal) (refusal : ScriptRefusal)
    → i < length lines → item ≡ get_or lines i item → text ≡ item
    → StopsAs (line_run client (i + 1) so_far (meaning boards indexes (i + 1) text)) refusal
    → IsErrAnd result (λ handed. handed ≡ refusal)
    → IfErr result (StopsAs (joined_run steps (run_from boards indexes client so_far (i + 1) (drop i lines))))
stopped_at_line boards indexes client steps so_far i item text lines result refusal within is same stops handed =
    let rest : Tally → Run = λ next. run_from boards indexes client next (i + 1 + 1) (drop (i + 1) lines) in
    let line = line_run client (i + 1) so_far (meaning boards indexes (i + 1) text) in
    subst (λ (texts : List (List ℕ)). IfErr result (StopsAs (joined_run steps (run_from boards indexes client so_far (i + 1) texts))))
    (sym (left_at lines i item text within is same))
    (handed_on (StopsAs (joined_run steps (then_run line rest))) result refusal handed
    (stops_at_line steps line rest refusal stops))

-- the step of a line, where it has one
pub with_step_of : (steps more : List Step) (step : Option Step) (pushed : Step) → more ≡ steps ++ pushed ∷ []
    → step ≡ Some pushed → more ≡ steps ++ option_to_list step
with_step_of steps more step pushed grown is =
    grown ∙ ap (λ (one : Option Step). steps ++ option_to_list one) (sym is)

pub with_no_step : (steps : List Step) (step : Option Step) → step ≡ None → steps ≡ steps ++ option_to_list step
with_no_step steps step is =
    sym (append-nil steps) ∙ ap (λ (one : Option Step). steps ++ option_to_list one) (sym is)

can_be_packed : (step : Option Step) → IfSome step CanBePacked → AllByRecursion CanBePacked (option_to_list step)
can_be_packed None can = tt
can_be_packed (Some step) can = (can, tt)

pub all_can_be_packed : (steps more : List Step) (step : Option Step) → more ≡ steps ++ option_to_list step
    → AllByRecursion CanBePacked steps → IfSome step CanBePacked → AllByRecursion CanBePacked more
all_can_be_packed steps more step grown all can =
    subst (AllByRecursion CanBePacked) (sym grown)
    (AllByRecursion-append CanBePacked steps (option_to_list step) all (can_be_packed step can))

pub lines_counted : (i before after : ℕ) → i ≤ before → after ≡ before + 1 → i + 1 ≤ after
lines_counted i before after within is = omega (arith, within, is)

-- a script more
script_on : (boards : List BoardSpec) (indexes : List RegisterMap) (client : ℕ) (all : List (List Step))
    (tally next : Tally) (steps : List Step) (script : List (List ℕ)) (scripts : List (List (List ℕ)))
    → run_from boards indexes client tally 1 script ≡ Ok (steps, next)
    → with_steps_before (all ++ steps ∷ []) (run_all boards indexes (client + 1) next scripts)
    ≡ with_steps_before all (run_all boards indexes client tally (script ∷ scripts))
script_on boards indexes client all tally next steps script scripts is =
    prepended_twice all (steps ∷ []) (run_all boards indexes (client + 1) next scripts)
    ∙ ap (λ (r : Run). with_steps_before all (then_all r (λ t. run_all boards indexes (client + 1) t scripts))) (sym is)

pub one_script_more : (boards : List BoardSpec) (indexes : List RegisterMap) (all more : List (List Step))
    (tally next : Tally) (steps : List Step) (i : ℕ) (item script : List (List ℕ)) (scripts : List (List (List ℕ)))
    → i < length scripts → item ≡ get_or scripts i item → script ≡ item → more ≡ all ++ steps ∷ []
    → run_from boards indexes (i + 1) tally 1 script ≡ Ok (steps, next)
    → with_steps_before more (run_all boards indexes (i + 1 + 1) next (drop (i + 1) scripts))
    ≡ with_steps_before all (run_all boards indexes (i + 1) tally (drop i scripts))
one_script_more boards indexes all more tally next steps i item script scripts within is same grown ran =
    ap (λ (done : List (List Step)). with_steps_before done (run_all boards indexes (i + 1 + 1) next (drop (i + 1) scripts)))
    grown
    ∙ (script_on boards indexes (i + 1) all tally next steps script (drop (i + 1) scripts) ran
    ∙ ap (λ (left : List (List (List ℕ))). with_steps_before all (run_all boards indexes (i + 1) tally left))
    (sym (left_at scripts i item script within is same)))

pub all_scripts_packed : (all more : List (List Step)) (steps : List Step) → more ≡ all ++ steps ∷ []
    → AllByRecursion (AllByRecursion CanBePacked) all → AllByRecursion CanBePacked steps
    → AllByRecursion (AllByRecursion CanBePacked) more
all_scripts_packed all more steps grown can these =
    subst (AllByRecursion (AllByRecursion CanBePacked)) (sym grown)
    (AllByRecursion-append (AllByRecursion CanBePacked) all (steps ∷ []) can (these, tt))

-- what stops at a script stops there with the scripts before it
stops_at_script : (all : List (List Step)) (script : Run) (rest : Tally → Result (List (List Step)) LineFault)
    (refusal : ScriptRefusal) → StopsAs script refusal → StopsAs (with_steps_before all (then_all script rest)) refusal
stops_at_script all script rest (At client number why) stops = ap (λ run. with_steps_before all (then_all run rest)) stops
stops_at_script all script rest NoMemory stops = tt

pub stopped_at_script : {X : Type 0} (boards : List BoardSpec) (indexes : List RegisterMap) (all : List (List Step))
    (tally : Tally) (i : ℕ) (item script : List (List ℕ)) (scripts : List (List (List ℕ)))
    (result : Result X ScriptRefusal) (refusal : ScriptRefusal)
    → i < length scripts → item ≡ get_or scripts i item → script ≡ item
    → StopsAs (run_from boards indexes (i + 1) tally 1 script) refusal
    → IsErrAnd result (λ handed. handed ≡ refusal)
    → IfErr result (StopsAs (with_steps_before all (run_all boards indexes (i + 1) tally (drop i scripts))))
stopped_at_script boards indexes all tally i item script scripts result refusal within is same stops handed =
    let rest : Tally → Result (List (List Step)) LineFault =
    λ next. run_all boards indexes (i + 1 + 1) next (drop (i + 1) scripts) in
    let run = run_from boards indexes (i + 1) tally 1 script in
    subst (λ (left : List (List (List ℕ))). IfErr result (StopsAs (with_steps_before all (run_all boards indexes (i + 1) tally left))))
    (sym (left_at scripts i item script within is same))
    (handed_on (StopsAs (with_steps_before all (then_all run rest))) result refusal handed
    (stops_at_script all run rest refusal stops))
