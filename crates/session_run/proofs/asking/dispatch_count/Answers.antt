use Rattle.std.proofs.Common.{◌≡◌, ◌+◌, ◌∷◌, List, ap, arith, drop, length}
use Rattle.script_steps.specs.declared.operation.Step.{Step}
use Rattle.script_plans.specs.Plan.{dispatches}
use Rattle.board_history.proofs.Lists.{begins_at}
use Rattle.session_run.proofs.Plans.{one_at_most, step_more}
use Rattle.session_run.proofs.asking.dispatch_count.Goals as goal

pub loop-step-preserved : goal.loop-step-preserved
loop-step-preserved c =
    let steps = c.args.steps.now in
    let k = c.loop-step.step-index in
    let step = c.step-item.result in
    let begins : drop k steps ≡ step ∷ drop (k + 1) steps =
    begins_at steps k step c.loop-step-test.true c.step-item.is in
    let was = ap (λ (l : List Step). length (dispatches l)) begins in
    let more = step_more step (drop (k + 1) steps) in
    let one = one_at_most step in
    let whole = c.loop-step.invariant.whole in
    let few = c.loop-step.invariant.few in
    let ends = c.ends_in-count.ensures in
    record { whole = omega (arith, was, more, whole, ends); few = omega (arith, few, ends, one) }
