use Rattle.std.proofs.Common.{◌∙◌, Some, ap, map, sym, subst, arith}
use Rattle.std.proofs.lemmas.Grind.{common_steps}
use Rattle.std.proofs.lemmas.Option.{same_Some}
use Rattle.std.proofs.lemmas.Result.{IfOk-weaker}
use Rattle.std.specs.List.{AllByRecursion}
use Rattle.std.proofs.lemmas.List.{take_all}
use Rattle.script_steps.specs.Packing.{CanBePacked, HaveFewPieces}
use Rattle.script_plans.specs.Plan.{plans_on}
use Rattle.script_plans.specs.declared.board_run.BoardRun.{BoardRun}
use Rattle.board_history.specs.Links.{LinkReport}
use Rattle.board_history.specs.LinkRuns.{ShowsLates, ShowsScripts}
use Rattle.session_run.specs.Boards.{IsNamed}
use Rattle.session_run.proofs.DispatchParts.{plan_in_part}
use Rattle.session_run.proofs.Idle.{HasNothing, idle_lates, idle_shows}
use Rattle.session_run.proofs.PlansMade.{script_at}
use Rattle.session_run.proofs.finish.run_idle.Goals as goal

pub returns-clause-scripts : goal.returns-clause-scripts
returns-clause-scripts c =
    let scripts = c.args.scripts.now in
    IfOk-weaker c.named.result (IsNamed c.args.spec.now c.args.greeting (Some c.from_vec.result))
    (ShowsScripts c.args.spec.now c.args.position scripts)
    (λ run named. (let parts = same_Some c.from_vec.result run.parts named.parts' in
    let here = sym parts ∙ c.from_vec.ensures in
    idle_shows c.args.spec.now c.args.position c.args.greeting scripts run named.name' named.greeting'
    (ap (map plan_in_part) here ∙ (c.loop-steps.invariant.planned
    ∙ ap (plans_on c.args.position c.args.greeting) (take_all c.loop-steps.steps-index scripts
    c.loop-steps-test.false)))
    (subst (AllByRecursion HasNothing) (sym here) c.loop-steps.invariant.nothing)))
    c.named.ensures

pub returns-clause-lates : goal.returns-clause-lates
returns-clause-lates c =
    IfOk-weaker c.named.result (IsNamed c.args.spec.now c.args.greeting (Some c.from_vec.result))
    (λ (run : BoardRun). (link : LinkReport) → ShowsLates run link)
    (λ run named. idle_lates run (subst (AllByRecursion HasNothing)
    (sym (sym (same_Some c.from_vec.result run.parts named.parts') ∙ c.from_vec.ensures))
    c.loop-steps.invariant.nothing))
    c.named.ensures

pub loop-steps-init : goal.loop-steps-init
loop-steps-init c = grind (arith, common_steps)

pub loop-steps-preserved : goal.loop-steps-preserved
loop-steps-preserved c = grind (arith, common_steps)

pub returns-clause-greeting : goal.returns-clause-greeting
returns-clause-greeting c = grind (arith, common_steps)

pub plan_on-requires-clause-can : goal.plan_on-requires-clause-can
plan_on-requires-clause-can c =
    let can = AllByRecursion CanBePacked in
    subst can (sym c.as_slice.ensures) (script_at can c.loop-steps.steps-index c.args.scripts.now c.steps-item.result
    c.loop-steps-test.true c.steps-item.is c.requires.can)

pub plan_on-requires-clause-few : goal.plan_on-requires-clause-few
plan_on-requires-clause-few c =
    subst HaveFewPieces (sym c.as_slice.ensures) (script_at HaveFewPieces c.loop-steps.steps-index c.args.scripts.now
    c.steps-item.result c.loop-steps-test.true c.steps-item.is c.requires.few)
