use Rattle.std.proofs.Common.{◌≡◌, ◌∙◌, ℕ, List, ap, length, subst, sym, arith}
use Rattle.std.proofs.lemmas.Grind.{common_steps}
use Rattle.std.specs.List.{AllByRecursion}
use Rattle.std.specs.Prelude.{IfOk}
use Rattle.std.proofs.lemmas.Result.{IfOk-weaker}
use Rattle.client_threads.specs.Clients.{AreOfClientsFrom, IsPlanFor, OnLanesFrom}
use Rattle.client_threads.specs.declared.plan.ClientPlan.{ClientPlan}
use Rattle.session_run.specs.Parts.{HasClients, HasLanes, parts_from}
use Rattle.session_run.specs.Hubs.{CameBack, HoldsAll, RanAtHub}
use Rattle.session_run.specs.Lanes.{AllThree, IsPlannedOn, IsRunOn}
use Rattle.board_greeting.specs.Standings.{positions_at_hub}
use Rattle.session_run.proofs.HubRuns.{all_gone, hold_all, parts_ran}
use Rattle.session_run.proofs.PlanningLanes.{boards_of_clients}
use Rattle.session_run.proofs.Sides.{four_long, ok_then}
use Rattle.session_run.proofs.lanes.run_lanes.Goals as goal

pub run_at_hub-lanes-requires-clause-planned : goal.run_at_hub-lanes-requires-clause-planned
run_at_hub-lanes-requires-clause-planned g c κs within =
    let mids = c.plan_all.new.lanes.items in
    subst (λ (l : List ClientPlan). OnLanesFrom 0 (HoldsAll l) mids) (sym c.deref.ensures.value)
    (hold_all c.args.scripts.now c.in-Ok.clients.items 0 (positions_at_hub 0 c.args.boards.now) c.args.lanes.items mids
    c.in-Ok.plans.items c.requires.unused c.in-Ok.ensures.planned c.in-Ok.ensures.counts)

pub parts_if_ran-requires-clause-lanes : goal.parts_if_ran-requires-clause-lanes
parts_if_ran-requires-clause-lanes g c =
    subst (λ (n : ℕ). IfOk c.run_at_hub-lanes.result.1 (λ there. AllByRecursion (HasLanes n) there.items))
    (four_long (IsPlannedOn c.args.scripts.now) (positions_at_hub 0 c.args.boards.now) c.args.lanes.items
    c.plan_all.new.lanes.items c.in-Ok.plans.items c.in-Ok.ensures.planned) c.run_at_hub-lanes.ensures.lanes

pub parts_if_ran-requires-clause-clients : goal.parts_if_ran-requires-clause-clients
parts_if_ran-requires-clause-clients g c =
    let all = c.in-Ok.plans.items in
    IfOk-weaker c.run_at_hub-lanes.result.1 (λ there. length there.items ≡ length c.deref.result.now)
    (λ there. AllByRecursion (HasClients (length there.items)) all)
    (λ there is. boards_of_clients c.args.scripts.now (positions_at_hub 0 c.args.boards.now) c.args.lanes.items
    c.plan_all.new.lanes.items all (length there.items) c.in-Ok.ensures.planned
    (is ∙ (ap (λ (l : List ClientPlan). length l) c.deref.ensures.value ∙ c.in-Ok.ensures.all)))
    c.run_at_hub-lanes.ensures.all

pub returns-in-Ok-clause-gone_on : goal.returns-in-Ok-clause-gone_on
returns-in-Ok-clause-gone_on g c =
    let tells = g.L.Link.telling in
    let scripts = c.args.scripts.now in
    let positions = positions_at_hub 0 c.args.boards.now in
    let plans = c.in-Ok.clients.items in
    let olds = c.args.lanes.items in
    let mids = c.plan_all.new.lanes.items in
    let news = c.run_at_hub-lanes.result.0.items in
    let gone = all_gone c.a_record_tells_its_lane.ensures c.a_lane_comes_back_with_its_record.ensures
    c.a_hub_left_at_any_moment_is_partly_planned.ensures tells scripts plans positions olds mids news
    c.in-Ok.ensures.clients c.in-Ok.ensures.all c.in-Ok.ensures.gone_on
    (subst (λ (l : List ClientPlan). CameBack tells l mids news) c.deref.ensures.value
    c.run_at_hub-lanes.ensures.back) in
    gone

pub returns-in-Ok-clause-ran : goal.returns-in-Ok-clause-ran
returns-in-Ok-clause-ran g c =
    let tells = g.L.Link.telling in
    let scripts = c.args.scripts.now in
    let positions = positions_at_hub 0 c.args.boards.now in
    let plans = c.in-Ok.clients.items in
    let olds = c.args.lanes.items in
    let mids = c.plan_all.new.lanes.items in
    let news = c.run_at_hub-lanes.result.0.items in
    let gone = all_gone c.a_record_tells_its_lane.ensures c.a_lane_comes_back_with_its_record.ensures
    c.a_hub_left_at_any_moment_is_partly_planned.ensures tells scripts plans positions olds mids news
    c.in-Ok.ensures.clients c.in-Ok.ensures.all c.in-Ok.ensures.gone_on
    (subst (λ (l : List ClientPlan). CameBack tells l mids news) c.deref.ensures.value
    c.run_at_hub-lanes.ensures.back) in
    let all = c.in-Ok.plans.items in
    ok_then c.parts_if_ran.result c.run_at_hub-lanes.result.1
    (λ parts there. parts.items ≡ parts_from 0 all there.items)
    (λ there. RanAtHub tells c.deref.result.now there.items mids news)
    (λ parts. AllThree (IsRunOn scripts) positions news parts.items) c.parts_if_ran.ensures
    c.run_at_hub-lanes.ensures.ran
    (λ parts there is ran. parts_ran c.a_lane_comes_back_with_its_record.ensures
    c.clients_of_a_hub_leave_a_clients_record.ensures tells scripts plans there.items positions olds mids news all
    parts.items c.in-Ok.ensures.clients c.requires.unused c.in-Ok.ensures.planned c.in-Ok.ensures.counts gone
    (subst (λ (l : List ClientPlan). RanAtHub tells l there.items mids news) c.deref.ensures.value ran) is)

pub returns-in-Err-clause-gone_on : goal.returns-in-Err-clause-gone_on
returns-in-Err-clause-gone_on g c = grind (arith, common_steps)

pub plan_all-requires : goal.plan_all-requires
plan_all-requires g c = grind (arith, common_steps)

pub run_at_hub-lanes-requires-clause-clients : goal.run_at_hub-lanes-requires-clause-clients
run_at_hub-lanes-requires-clause-clients g c κs within =
    subst (AreOfClientsFrom 1) (sym c.deref.ensures.value) c.in-Ok.ensures.clients

pub run_at_hub-lanes-requires-clause-few : goal.run_at_hub-lanes-requires-clause-few
run_at_hub-lanes-requires-clause-few g c κs within =
    let same = ap (λ (l : List ClientPlan). length l) c.deref.ensures.value in
    let all = c.in-Ok.ensures.all in
    let few = c.requires.can.few_clients in
    omega (arith, same, all, few)

pub run_at_hub-lanes-requires-clause-for_hub : goal.run_at_hub-lanes-requires-clause-for_hub
run_at_hub-lanes-requires-clause-for_hub g c κs within =
    subst (AllByRecursion (IsPlanFor (length c.plan_all.new.lanes.items))) (sym c.deref.ensures.value)
    c.in-Ok.ensures.for_hub
