use Rattle.std.proofs.Common.{ap, ◌∙◌, arith}
use Rattle.std.proofs.lemmas.Grind.{common_steps}
use Rattle.script_plans.specs.Plan.{planned_on}
use Rattle.run_audit.specs.Replaying.{HasShortBodies}
use Rattle.run_audit.proofs.ShortBodies.{fitting_is_short, one_more_short, plans_taken}
use Rattle.run_audit.proofs.plans.plans_on.Goals as goal

pub loop-steps-preserved : goal.loop-steps-preserved
loop-steps-preserved c =
    let made = c.in_ok-plan_on.ensures.planned in
    record {
      plans = c.in_ok-push.ensures.items
          ∙ plans_taken c.args.board c.greeting_of-greeting.result c.args.scripts.now c.loop-steps.steps-index
          c.steps-item.result c.loop-steps.items.items c.in_ok-plan_on.field-0 c.loop-steps-test.true c.steps-item.is
          c.loop-steps.invariant.plans
          (made ∙ ap (planned_on c.args.board c.greeting_of-greeting.result) c.as_slice.ensures);
      short = rw c.in_ok-push.ensures.items
          (one_more_short HasShortBodies c.loop-steps.items.items c.in_ok-plan_on.field-0
          c.loop-steps.invariant.short
          (fitting_is_short c.greeting_of-greeting.result c.args.board c.as_slice.result.now c.in_ok-plan_on.field-0
          c.greeting_of-greeting.ensures.payload c.in_ok-plan_on.ensures.planned c.in_ok-plan_on.ensures.room));
    }

pub returns-clause-plans : goal.returns-clause-plans
returns-clause-plans c = grind (arith, common_steps)

pub returns-clause-short : goal.returns-clause-short
returns-clause-short c = grind (arith, common_steps)
