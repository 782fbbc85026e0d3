use Rattle.std.proofs.Common.{arith}
use Rattle.std.proofs.lemmas.Grind.{common_steps}
use Rattle.session_run.proofs.Plans.{dispatch_done}
use Rattle.session_run.proofs.asking.plan_over.Goals as goal

pub loop-dispatch-preserved : goal.loop-dispatch-preserved
loop-dispatch-preserved c = (
  dispatch_done c.args.boards.now c.args.client c.loop-dispatch.dispatch c.loop-dispatch.all.items
      c.push_reserved.new.self.items
      c.in_ok-dispatch_over.field-0 c.loop-dispatch.invariant.0 c.in_ok-dispatch_over.ensures c.push_reserved.ensures.items,
  omega (arith, c.push_reserved.ensures.len, c.loop-dispatch.invariant.1),
  omega (arith, c.push_reserved.ensures.capacity, c.loop-dispatch.invariant.2),
)

pub returns-in_err-all : goal.returns-in_err-all
returns-in_err-all c = grind (arith, common_steps)

pub loop-dispatch-init : goal.loop-dispatch-init
loop-dispatch-init c = grind (arith, common_steps)

pub dispatch_over-requires-clause-few_boards : goal.dispatch_over-requires-clause-few_boards
dispatch_over-requires-clause-few_boards c = grind (arith, common_steps)

pub dispatch_over-requires-clause-few_bodies : goal.dispatch_over-requires-clause-few_bodies
dispatch_over-requires-clause-few_bodies c = grind (arith, common_steps)

pub returns-in_err-dispatch_over : goal.returns-in_err-dispatch_over
returns-in_err-dispatch_over c = grind (arith, common_steps)

pub returns : goal.returns
returns c = grind (arith, common_steps)
