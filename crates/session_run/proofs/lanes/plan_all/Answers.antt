use Rattle.std.proofs.Common.{◌∙◌, ℕ, List, ap, arith, length, subst, sym}
use Rattle.std.proofs.lemmas.Grind.{common_steps}
use Rattle.std.specs.List.{AllByRecursion}
use Rattle.std.proofs.lemmas.Result.{IfOk-from_err}
use Rattle.client_threads.specs.Clients.{IsPlanFor}
use Rattle.session_run.specs.Plans.{ArePlansOnBoard, HasFewBodies}
use Rattle.session_run.specs.Lanes.{IsPlannedOn}
use Rattle.script_plans.specs.Plan.{ClientBodies}
use Rattle.board_greeting.specs.Standings.{positions_at_hub}
use Rattle.board_greeting.proofs.Standings.{positions_few}
use Rattle.session_run.proofs.PlanningLanes.{boards_few, boards_planned}
use Rattle.session_run.proofs.Sides.{four_ends, four_long}
use Rattle.session_run.proofs.lanes.plan_all.Goals as goal

pub client_plans-requires-clause-few_boards : goal.client_plans-requires-clause-few_boards
client_plans-requires-clause-few_boards g c =
    let ends = four_ends (IsPlannedOn c.args.scripts.now) (positions_at_hub 0 c.args.boards.now) c.args.lanes.now.items
    c.plan_lanes.new.lanes.items c.in_ok-plans.plans.items c.in_ok-plans.ensures.planned in
    let same = ap (λ (l : List (List ClientBodies)). length l) c.deref.ensures.value in
    let at_hub = positions_few 0 c.args.boards.now in
    let few = c.requires.few_boards in
    omega (arith, ends, same, at_hub, few)

pub client_plans-requires-clause-few_bodies : goal.client_plans-requires-clause-few_bodies
client_plans-requires-clause-few_bodies g c =
    subst (AllByRecursion (AllByRecursion HasFewBodies)) (sym c.deref.ensures.value)
    (boards_few c.args.scripts.now (positions_at_hub 0 c.args.boards.now) c.args.lanes.now.items c.plan_lanes.new.lanes.items
    c.in_ok-plans.plans.items
    c.in_ok-plans.ensures.planned)

pub client_plans-requires-clause-planned : goal.client_plans-requires-clause-planned
client_plans-requires-clause-planned g c =
    subst (AllByRecursion (ArePlansOnBoard c.args.scripts.now)) (sym c.deref.ensures.value)
    (boards_planned c.args.scripts.now (positions_at_hub 0 c.args.boards.now) c.args.lanes.now.items c.plan_lanes.new.lanes.items
    c.in_ok-plans.plans.items c.in_ok-plans.ensures.planned)

pub returns-clause-for_hub : goal.returns-clause-for_hub
returns-clause-for_hub g c =
    let long = four_long (IsPlannedOn c.args.scripts.now) (positions_at_hub 0 c.args.boards.now) c.args.lanes.now.items c.plan_lanes.new.lanes.items
    c.in_ok-plans.plans.items c.in_ok-plans.ensures.planned in
    subst (λ (n : ℕ). AllByRecursion (IsPlanFor n) c.in_ok-clients.clients.items)
    (ap (λ (l : List (List ClientBodies)). length l) c.deref.ensures.value ∙ sym long) c.in_ok-clients.ensures.lanes

pub returns-in_err-plans-clause-planned : goal.returns-in_err-plans-clause-planned
returns-in_err-plans-clause-planned g c = IfOk-from_err c.from_residual.result _ c.from_residual.ensures.0

pub returns-in_err-plans-clause-clients : goal.returns-in_err-plans-clause-clients
returns-in_err-plans-clause-clients g c = IfOk-from_err c.from_residual.result _ c.from_residual.ensures.0

pub returns-in_err-plans-clause-all : goal.returns-in_err-plans-clause-all
returns-in_err-plans-clause-all g c = IfOk-from_err c.from_residual.result _ c.from_residual.ensures.0

pub returns-in_err-plans-clause-for_hub : goal.returns-in_err-plans-clause-for_hub
returns-in_err-plans-clause-for_hub g c = IfOk-from_err c.from_residual.result _ c.from_residual.ensures.0

pub returns-in_err-plans-clause-counts : goal.returns-in_err-plans-clause-counts
returns-in_err-plans-clause-counts g c = IfOk-from_err c.from_residual.result _ c.from_residual.ensures.0

pub returns-in_err-clients-clause-planned : goal.returns-in_err-clients-clause-planned
returns-in_err-clients-clause-planned g c =
    IfOk-from_err c.from_residual-in_err-clients.result _ c.from_residual-in_err-clients.ensures.0

pub returns-in_err-clients-clause-clients : goal.returns-in_err-clients-clause-clients
returns-in_err-clients-clause-clients g c =
    IfOk-from_err c.from_residual-in_err-clients.result _ c.from_residual-in_err-clients.ensures.0

pub returns-in_err-clients-clause-all : goal.returns-in_err-clients-clause-all
returns-in_err-clients-clause-all g c =
    IfOk-from_err c.from_residual-in_err-clients.result _ c.from_residual-in_err-clients.ensures.0

pub returns-in_err-clients-clause-for_hub : goal.returns-in_err-clients-clause-for_hub
returns-in_err-clients-clause-for_hub g c =
    IfOk-from_err c.from_residual-in_err-clients.result _ c.from_residual-in_err-clients.ensures.0

pub returns-in_err-clients-clause-counts : goal.returns-in_err-clients-clause-counts
returns-in_err-clients-clause-counts g c =
    IfOk-from_err c.from_residual-in_err-clients.result _ c.from_residual-in_err-clients.ensures.0

pub plan_lanes-requires-clause-can : goal.plan_lanes-requires-clause-can
plan_lanes-requires-clause-can g c = grind (arith, common_steps)

pub plan_lanes-requires-clause-positions : goal.plan_lanes-requires-clause-positions
plan_lanes-requires-clause-positions g c = grind (arith, common_steps)

pub plan_lanes-requires-clause-unused : goal.plan_lanes-requires-clause-unused
plan_lanes-requires-clause-unused g c = grind (arith, common_steps)

pub returns-in_err-plans-clause-gone_on : goal.returns-in_err-plans-clause-gone_on
returns-in_err-plans-clause-gone_on g c = grind (arith, common_steps)

pub client_plans-requires-clause-few_clients : goal.client_plans-requires-clause-few_clients
client_plans-requires-clause-few_clients g c = grind (arith, common_steps)

pub returns-in_err-clients-clause-gone_on : goal.returns-in_err-clients-clause-gone_on
returns-in_err-clients-clause-gone_on g c = grind (arith, common_steps)

pub returns-clause-planned : goal.returns-clause-planned
returns-clause-planned g c = grind (arith, common_steps)

pub returns-clause-clients : goal.returns-clause-clients
returns-clause-clients g c = grind (arith, common_steps)

pub returns-clause-all : goal.returns-clause-all
returns-clause-all g c = grind (arith, common_steps)

pub returns-clause-counts : goal.returns-clause-counts
returns-clause-counts g c = grind (arith, common_steps)

pub returns-clause-gone_on : goal.returns-clause-gone_on
returns-clause-gone_on g c = grind (arith, common_steps)
