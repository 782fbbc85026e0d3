use Rattle.std.proofs.Common.{◌≡◌, ◌≤◌, List, [], length, Ok, slice_get, sym, subst}
use Rattle.std.specs.List.{AllByRecursion}
use Rattle.std.proofs.lemmas.Result.{IfOk-weaker, IfErr-weaker}
use Rattle.script_steps.specs.declared.operation.Step.{Step}
use Rattle.script_lang.specs.declared.script_refusal.TheConstants.{MAX_LINES}
use Rattle.script_steps.specs.Packing.{AreWithinLimits, HaveFewPieces}
use Rattle.script_lang.specs.Scripts.{script_faults, steps_of, TellsLine}
use Rattle.script_lang.specs.Tallies.{run_all, nothing, StopsAs}
use Rattle.script_lang.proofs.FewPieces.{few_pieces, short_steps}
use Rattle.script_lang.proofs.RunsTell.{all_told, stop_told}
use Rattle.script_lang.proofs.WithinLimits.{within_limits}
use Rattle.script_lang.proofs.compile.compile_scripts.Goals as goal

pub returns-clause-steps : goal.returns-clause-steps
returns-clause-steps c =
    let boards = c.as_slice-boards.result.now in
    let scripts = c.as_slice-scripts.result.now in
    rw (← c.as_slice-boards.ensures, ← c.as_slice-scripts.ensures)
    (IfOk-weaker c.all_steps.result (λ all. run_all boards c.args.indexes.now 1 nothing scripts ≡ Ok all.items)
    (λ all. all.items ≡ steps_of boards c.args.indexes.now scripts)
    (λ all ends. (all_told boards c.args.indexes.now scripts all.items ends).1) c.all_steps.ensures.run)

pub returns-clause-accepted : goal.returns-clause-accepted
returns-clause-accepted c =
    let boards = c.as_slice-boards.result.now in
    let scripts = c.as_slice-scripts.result.now in
    rw (← c.as_slice-boards.ensures, ← c.as_slice-scripts.ensures)
    (IfOk-weaker c.all_steps.result (λ all. run_all boards c.args.indexes.now 1 nothing scripts ≡ Ok all.items)
    (λ all. script_faults boards c.args.indexes.now scripts ≡ [])
    (λ all ends. (all_told boards c.args.indexes.now scripts all.items ends).0) c.all_steps.ensures.run)

pub returns-clause-refused : goal.returns-clause-refused
returns-clause-refused c =
    let boards = c.as_slice-boards.result.now in
    let scripts = c.as_slice-scripts.result.now in
    rw (← c.as_slice-boards.ensures, ← c.as_slice-scripts.ensures)
    (IfErr-weaker c.all_steps.result (StopsAs (run_all boards c.args.indexes.now 1 nothing scripts))
    (TellsLine (slice_get (script_faults boards c.args.indexes.now scripts) 0))
    (λ refusal stops. stop_told boards c.args.indexes.now scripts refusal stops) c.all_steps.ensures.stopped)

pub returns-clause-few : goal.returns-clause-few
returns-clause-few c =
    let boards = c.as_slice-boards.result.now in
    let scripts = c.as_slice-scripts.result.now in
    IfOk-weaker c.all_steps.result (λ all. run_all boards c.args.indexes.now 1 nothing scripts ≡ Ok all.items)
    (λ all. AllByRecursion HaveFewPieces all.items)
    (λ all ends.
    let told = all_told boards c.args.indexes.now scripts all.items ends in
    subst (λ (clients : List (List Step)). AllByRecursion HaveFewPieces clients) (sym told.1)
    (few_pieces boards c.args.indexes.now scripts told.0)) c.all_steps.ensures.run

pub returns-clause-short : goal.returns-clause-short
returns-clause-short c =
    let boards = c.as_slice-boards.result.now in
    let scripts = c.as_slice-scripts.result.now in
    IfOk-weaker c.all_steps.result (λ all. run_all boards c.args.indexes.now 1 nothing scripts ≡ Ok all.items)
    (λ all. AllByRecursion (λ steps. length steps ≤ MAX_LINES) all.items)
    (λ all ends.
    let told = all_told boards c.args.indexes.now scripts all.items ends in
    subst (λ (clients : List (List Step)). AllByRecursion (λ steps. length steps ≤ MAX_LINES) clients) (sym told.1)
    (short_steps boards c.args.indexes.now scripts told.0)) c.all_steps.ensures.run

pub returns-clause-limits : goal.returns-clause-limits
returns-clause-limits c =
    let boards = c.as_slice-boards.result.now in
    let scripts = c.as_slice-scripts.result.now in
    let indexes = c.args.indexes.now in
    IfOk-weaker c.all_steps.result (λ all. run_all boards indexes 1 nothing scripts ≡ Ok all.items)
    (λ all. AreWithinLimits all.items)
    (λ all ends.
    let told = all_told boards indexes scripts all.items ends in
    subst AreWithinLimits (sym told.1) (within_limits boards indexes scripts told.0)) c.all_steps.ensures.run
