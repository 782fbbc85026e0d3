use Rattle.std.proofs.Common.{◌≡◌, ◌∙◌, List, ap, length, subst, sym, arith}
use Rattle.std.proofs.lemmas.Grind.{common_steps}
use Rattle.std.proofs.lemmas.List.{take_all}
use Rattle.std.specs.List.{AllByRecursion}
use Rattle.client_threads.specs.Clients.{AreOfClientsFrom, IsPlanFor}
use Rattle.client_threads.specs.declared.plan.ClientPlan.{ClientPlan}
use Rattle.script_steps.specs.declared.operation.Step.{Step}
use Rattle.session_run.specs.Plans.{AskAllFrom, plans_over}
use Rattle.script_plans.specs.Plan.{dispatches}
use Rattle.session_run.proofs.Plans.{ask_all, client_more, counts_long, dispatch_counts, plans_clients, plans_for}
use Rattle.session_run.proofs.Plans.{plans_many}
use Rattle.session_run.proofs.asking.client_plans.Goals as goal

pub loop-client-preserved : goal.loop-client-preserved
loop-client-preserved c = (
  client_more c.args.boards.now c.loop-client.client c.dispatch_count-many.result c.args.scripts.now
      c.index-scripts-client.result c.loop-client.plans.items c.push_reserved.new.self.items c.in_ok-plan_over.field-0
      c.loop-client-test.true c.index-scripts-client.is c.loop-client.invariant.0
      (c.dispatch_count-many.ensures ∙ ap (λ (l : List Step). length (dispatches l)) c.as_slice.ensures)
      c.in_ok-plan_over.ensures c.push_reserved.ensures.items,
  omega (arith, c.push_reserved.ensures.len, c.loop-client.invariant.1),
  omega (arith, c.push_reserved.ensures.capacity, c.loop-client.invariant.2),
)

-- the plans are those of all scripts
all : (c : goal.After-loop-client) → c.loop-client.plans.items ≡ plans_over c.args.boards.now 0
    (dispatch_counts c.args.scripts.now)
all c = c.loop-client.invariant.0 ∙ ap (λ (l : List (List Step)). plans_over c.args.boards.now 0 (dispatch_counts l))
    (take_all c.loop-client.client c.args.scripts.now c.loop-client-test.false)

pub returns-clause-clients : goal.returns-clause-clients
returns-clause-clients c = subst (AreOfClientsFrom 1) (sym (all c))
    (plans_clients c.args.boards.now 0 (dispatch_counts c.args.scripts.now))

pub returns-clause-all : goal.returns-clause-all
returns-clause-all c = ap (λ (l : List ClientPlan). length l) (all c)
    ∙ (plans_many c.args.boards.now 0 (dispatch_counts c.args.scripts.now) ∙ counts_long c.args.scripts.now)

pub returns-clause-lanes : goal.returns-clause-lanes
returns-clause-lanes c = subst (AllByRecursion (IsPlanFor (length c.args.boards.now))) (sym (all c))
    (plans_for c.args.boards.now 0 (dispatch_counts c.args.scripts.now))

pub returns-clause-counts : goal.returns-clause-counts
returns-clause-counts c = subst (λ (l : List ClientPlan). AskAllFrom 0 l c.args.boards.now) (sym (all c))
    (ask_all c.args.boards.now c.args.scripts.now c.requires.planned)

pub returns-in_err-plans-clause-clients : goal.returns-in_err-plans-clause-clients
returns-in_err-plans-clause-clients c = grind (arith, common_steps)

pub returns-in_err-plans-clause-all : goal.returns-in_err-plans-clause-all
returns-in_err-plans-clause-all c = grind (arith, common_steps)

pub returns-in_err-plans-clause-lanes : goal.returns-in_err-plans-clause-lanes
returns-in_err-plans-clause-lanes c = grind (arith, common_steps)

pub returns-in_err-plans-clause-counts : goal.returns-in_err-plans-clause-counts
returns-in_err-plans-clause-counts c = grind (arith, common_steps)

pub loop-client-init : goal.loop-client-init
loop-client-init c = grind (arith, common_steps)

pub plan_over-requires-clause-few_boards : goal.plan_over-requires-clause-few_boards
plan_over-requires-clause-few_boards c = grind (arith, common_steps)

pub plan_over-requires-clause-few_bodies : goal.plan_over-requires-clause-few_bodies
plan_over-requires-clause-few_bodies c = grind (arith, common_steps)

pub plan_over-requires-clause-client : goal.plan_over-requires-clause-client
plan_over-requires-clause-client c = grind (arith, common_steps)

pub returns-in_err-plan_over-clause-clients : goal.returns-in_err-plan_over-clause-clients
returns-in_err-plan_over-clause-clients c = grind (arith, common_steps)

pub returns-in_err-plan_over-clause-all : goal.returns-in_err-plan_over-clause-all
returns-in_err-plan_over-clause-all c = grind (arith, common_steps)

pub returns-in_err-plan_over-clause-lanes : goal.returns-in_err-plan_over-clause-lanes
returns-in_err-plan_over-clause-lanes c = grind (arith, common_steps)

pub returns-in_err-plan_over-clause-counts : goal.returns-in_err-plan_over-clause-counts
returns-in_err-plan_over-clause-counts c = grind (arith, common_steps)
