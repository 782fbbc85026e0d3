use Rattle.std.proofs.Common.{ℕ, List, ◌∙◌, ◌∷◌, ◌++◌, [], ◌+◌, ap, refl, subst, sym, arith}
use Rattle.std.proofs.lemmas.Grind.{common_steps}
use Rattle.std.specs.List.{AllByRecursion}
use Rattle.std.proofs.lemmas.List.{take_all}
use Rattle.std.proofs.lemmas.Result.{IfOk-from_err}
use Rattle.lane_record.specs.declared.item.Item.{Item}
use Rattle.lane_record.specs.Items.{is_sealed}
use Rattle.lane_record.specs.NextEntry.{the_seal}
use Rattle.lane_record.specs.Dispatches.{all_plans_from}
use Rattle.board_history.specs.Records.{IsPartlyPlanned}
use Rattle.hub_lane.specs.Lanes.{board_of}
use Rattle.script_steps.specs.Packing.{CanBePacked, HaveFewPieces}
use Rattle.script_plans.specs.declared.greeting.Greeting.TheVariants.{Live}
use Rattle.script_plans.specs.Plan.{ClientBodies, plans_on}
use Rattle.session_run.specs.Clients.{bodies_of_plans}
use Rattle.session_run.specs.Plans.{HasFewBodies}
use Rattle.session_run.specs.Room.{HasRoomFor}
use Rattle.session_run.proofs.FewBodies.{few_planned}
use Rattle.session_run.proofs.PlansMade.{all_unsealed, client_planned, next_client, no_plans_yet, partly_between}
use Rattle.session_run.proofs.PlansMade.{partly_none, partly_stopped, plans_counted, script_at, sealed_last}
use Rattle.session_run.proofs.PlansMade.{unsealed_so_far}
use Rattle.session_run.proofs.RoomLeft.{payload_within, room_for_client}
use Rattle.session_run.proofs.planning.plan_clients.Goals as goal

pub returns-in_err-plans-clause-some : goal.returns-in_err-plans-clause-some
returns-in_err-plans-clause-some g c =
    let law = c.a_record_is_partly_planned_on_its_way.ensures in
    partly_none law.front law.plans _ c.args.lane.now.items c.requires.unused

pub returns-in_err-planned-clause-some : goal.returns-in_err-planned-clause-some
returns-in_err-planned-clause-some g c =
    let law = c.a_record_is_partly_planned_on_its_way.ensures in
    let scripts = c.args.scripts.now in
    let so_far = c.loop-steps.invariant.0 in
    let items = unsealed_so_far c.args.lane.now c.loop-steps.lane (bodies_of_plans c.loop-steps.plans.items) c.requires.unused
    so_far.lane' ∙ ap (λ (p : List ClientBodies). all_plans_from 1 (bodies_of_plans p)) so_far.plans' in
    subst (λ n. IsPartlyPlanned (bodies_of_plans (plans_on c.args.position (Live n) scripts)) c.loop-steps.lane.items)
    c.payload-payload.ensures
    (partly_between law.front law.plans c.args.position (Live c.payload-payload.result) c.loop-steps.steps-index scripts
    c.loop-steps.lane.items items)

pub plan_bodies-requires-clause-unsealed : goal.plan_bodies-requires-clause-unsealed
plan_bodies-requires-clause-unsealed g c =
    let plans = bodies_of_plans c.loop-steps.plans.items in
    ap is_sealed (unsealed_so_far c.args.lane.now c.loop-steps.lane plans c.requires.unused
    c.loop-steps.invariant.0.lane') ∙ all_unsealed 1 plans

pub plan_bodies-requires-clause-none : goal.plan_bodies-requires-clause-none
plan_bodies-requires-clause-none g c =
    let plans = c.loop-steps.plans in
    no_plans_yet c.loop-steps.lane.items plans.items _ (unsealed_so_far c.args.lane.now c.loop-steps.lane
    (bodies_of_plans plans.items) c.requires.unused c.loop-steps.invariant.0.lane')
    (ap (λ (n : ℕ). n + 1) (c.len.ensures ∙ plans.ok.0))

pub returns-in_err-plan_bodies-clause-some : goal.returns-in_err-plan_bodies-clause-some
returns-in_err-plan_bodies-clause-some g c =
    let law = c.a_record_is_partly_planned_on_its_way.ensures in
    let scripts = c.args.scripts.now in
    let next = next_client c.args.position (Live c.payload-payload.result) c.loop-steps.steps-index scripts
    c.loop-steps.invariant.0 c.loop-steps-test.true c.steps-item.is c.as_slice.ensures c.in_ok-planned.ensures.planned in
    subst (λ n. IsPartlyPlanned (bodies_of_plans (plans_on c.args.position (Live n) scripts)) c.plan_bodies.new.lane.items)
    c.payload-payload.ensures
    (partly_stopped law.front law.plans _ c.bodies.result.now c.plan_bodies.new.lane next c.requires.unused
    c.bodies.ensures.bodies (ap (λ (n : ℕ). n + 1) (c.len.ensures ∙ c.loop-steps.plans.ok.0))
    c.plan_bodies.ensures.some)

pub loop-steps-preserved : goal.loop-steps-preserved
loop-steps-preserved g c = (
  client_planned (c.len.result + 1) c.bodies.result.now c.push_reserved.new.self.items c.plan_bodies.new.lane
      (next_client c.args.position (Live c.payload-payload.result) c.loop-steps.steps-index c.args.scripts.now
      c.loop-steps.invariant.0 c.loop-steps-test.true c.steps-item.is c.as_slice.ensures c.in_ok-planned.ensures.planned)
      c.bodies.ensures.bodies (ap (λ (n : ℕ). n + 1) (c.len.ensures ∙ c.loop-steps.plans.ok.0))
      c.in_ok-plan_bodies.ensures.planned c.push_reserved.ensures.items,
  omega (arith, c.push_reserved.ensures.len, c.loop-steps.invariant.1),
  omega (arith, c.push_reserved.ensures.capacity, c.loop-steps.invariant.2),
)

pub returns-clause-planned : goal.returns-clause-planned
returns-clause-planned g c =
    c.seal.ensures ∙ sealed_last c.args.lane.now c.loop-steps.lane (bodies_of_plans c.loop-steps.plans.items)
    c.requires.unused c.loop-steps.invariant.0.lane'

pub plan_bodies-requires-clause-room : goal.plan_bodies-requires-clause-room
plan_bodies-requires-clause-room g c =
    let payload = c.payload-payload.result in
    let told = Live payload in
    let limits = payload_within payload c.is_sound.ensures.knows c.payload-payload.ensures in
    let plans = c.loop-steps.plans.items in
    let so_far = c.loop-steps.invariant.0 in
    let next = next_client c.args.position told c.loop-steps.steps-index c.args.scripts.now so_far
    c.loop-steps-test.true c.steps-item.is c.as_slice.ensures c.in_ok-planned.ensures.planned in
    subst (HasRoomFor c.loop-steps.lane.items)
    (sym (c.bodies.ensures.bodies ∙ ap (λ (p : ClientBodies). p.bodies) next.made))
    (room_for_client c.plans_are_short.ensures.bodies c.plans_are_short.ensures.words payload c.args.position
    c.loop-steps.steps-index c.args.scripts.now c.steps-item.result c.loop-steps.lane.items plans limits.0 limits.1
    c.requires.can.executable c.requires.can.limits next.within next.is so_far.plans'
    (unsealed_so_far c.args.lane.now c.loop-steps.lane (bodies_of_plans plans) c.requires.unused so_far.lane'))

pub returns-clause-few : goal.returns-clause-few
returns-clause-few g c =
    let payload = c.payload-payload.result in
    let limits = payload_within payload c.is_sound.ensures.knows c.payload-payload.ensures in
    let scripts = c.args.scripts.now in
    subst (AllByRecursion HasFewBodies)
    (sym (c.loop-steps.invariant.0.plans'
    ∙ ap (plans_on c.args.position (Live payload)) (take_all c.loop-steps.steps-index scripts c.loop-steps-test.false)))
    (few_planned c.plans_are_short.ensures.bodies payload c.args.position scripts limits.0 limits.1
    c.requires.can.executable c.requires.can.limits)

pub returns-in_err-plans-clause-keeps : goal.returns-in_err-plans-clause-keeps
returns-in_err-plans-clause-keeps g c = grind (arith, common_steps)

pub returns-in_err-planned-clause-keeps : goal.returns-in_err-planned-clause-keeps
returns-in_err-planned-clause-keeps g c = grind (arith, common_steps)

pub returns-in_err-plan_bodies-clause-keeps : goal.returns-in_err-plan_bodies-clause-keeps
returns-in_err-plan_bodies-clause-keeps g c = grind (arith, common_steps)

pub loop-steps-init : goal.loop-steps-init
loop-steps-init g c = grind (arith, common_steps)

pub plan_bodies-requires-clause-fit : goal.plan_bodies-requires-clause-fit
plan_bodies-requires-clause-fit g c = grind (arith, common_steps)

pub plan_bodies-requires-clause-client : goal.plan_bodies-requires-clause-client
plan_bodies-requires-clause-client g c = grind (arith, common_steps)

pub returns-clause-keeps : goal.returns-clause-keeps
returns-clause-keeps g c =
    let same = returns-clause-planned g c in
    record {
      number = ap (λ l. l.number) same;
      settings = ap (λ l. l.settings) same;
      status = ap (λ l. l.status) same;
      board = ap (λ l. board_of (g.L.Link.telling l.link)) same;
    }

pub returns-clause-plans : goal.returns-clause-plans
returns-clause-plans g c =
    let scripts = c.args.scripts.now in
    c.loop-steps.invariant.0.plans'
    ∙ (ap (plans_on c.args.position (Live c.payload-payload.result)) (take_all c.loop-steps.steps-index scripts
    c.loop-steps-test.false)
    ∙ ap (λ (n : ℕ). plans_on c.args.position (Live n) scripts) c.payload-payload.ensures)

pub returns-clause-some : goal.returns-clause-some
returns-clause-some g c =
    let law = c.a_record_is_partly_planned_on_its_way.ensures in
    let bodies = bodies_of_plans c.loop-steps.plans.items in
    let all = all_plans_from 1 bodies in
    let items = ap (λ l. l.items) (returns-clause-planned g c)
    ∙ ap (λ (l : List Item). l ++ (all ++ the_seal ∷ [])) c.requires.unused in
    subst (λ (p : List ClientBodies). IsPartlyPlanned (bodies_of_plans p) c.seal.new.self.items)
    (returns-clause-plans g c)
    (subst (IsPartlyPlanned bodies) (sym items) (law.more bodies all the_seal refl (omega arith) (law.plans bodies)))

pub returns-in_err-plans-clause-plans : goal.returns-in_err-plans-clause-plans
returns-in_err-plans-clause-plans g c = IfOk-from_err c.from_residual.result _ c.from_residual.ensures.0

pub returns-in_err-plans-clause-few : goal.returns-in_err-plans-clause-few
returns-in_err-plans-clause-few g c = IfOk-from_err c.from_residual.result _ c.from_residual.ensures.0

pub returns-in_err-plans-clause-planned : goal.returns-in_err-plans-clause-planned
returns-in_err-plans-clause-planned g c = IfOk-from_err c.from_residual.result _ c.from_residual.ensures.0

pub returns-in_err-planned-clause-plans : goal.returns-in_err-planned-clause-plans
returns-in_err-planned-clause-plans g c =
    IfOk-from_err c.from_residual-in_err-planned.result _ c.from_residual-in_err-planned.ensures.0

pub returns-in_err-planned-clause-few : goal.returns-in_err-planned-clause-few
returns-in_err-planned-clause-few g c =
    IfOk-from_err c.from_residual-in_err-planned.result _ c.from_residual-in_err-planned.ensures.0

pub returns-in_err-planned-clause-planned : goal.returns-in_err-planned-clause-planned
returns-in_err-planned-clause-planned g c =
    IfOk-from_err c.from_residual-in_err-planned.result _ c.from_residual-in_err-planned.ensures.0

pub returns-in_err-plan_bodies-clause-plans : goal.returns-in_err-plan_bodies-clause-plans
returns-in_err-plan_bodies-clause-plans g c =
    IfOk-from_err c.from_residual-in_err-plan_bodies.result _ c.from_residual-in_err-plan_bodies.ensures.0

pub returns-in_err-plan_bodies-clause-few : goal.returns-in_err-plan_bodies-clause-few
returns-in_err-plan_bodies-clause-few g c =
    IfOk-from_err c.from_residual-in_err-plan_bodies.result _ c.from_residual-in_err-plan_bodies.ensures.0

pub returns-in_err-plan_bodies-clause-planned : goal.returns-in_err-plan_bodies-clause-planned
returns-in_err-plan_bodies-clause-planned g c =
    IfOk-from_err c.from_residual-in_err-plan_bodies.result _ c.from_residual-in_err-plan_bodies.ensures.0

pub plan_on-requires-clause-payload : goal.plan_on-requires-clause-payload
plan_on-requires-clause-payload g c =
    payload_within c.payload-payload.result c.is_sound.ensures.knows c.payload-payload.ensures

pub plan_on-requires-clause-can : goal.plan_on-requires-clause-can
plan_on-requires-clause-can g c =
    let can = AllByRecursion CanBePacked in
    subst can (sym c.as_slice.ensures) (script_at can c.loop-steps.steps-index c.args.scripts.now c.steps-item.result
    c.loop-steps-test.true c.steps-item.is c.requires.can.packed)

pub plan_on-requires-clause-few : goal.plan_on-requires-clause-few
plan_on-requires-clause-few g c =
    subst HaveFewPieces (sym c.as_slice.ensures) (script_at HaveFewPieces c.loop-steps.steps-index c.args.scripts.now
    c.steps-item.result c.loop-steps-test.true c.steps-item.is c.requires.can.few)

pub overflow_cast-client : goal.overflow_cast-client
overflow_cast-client g c =
    let within = c.loop-steps-test.true in
    let many = plans_counted c.loop-steps.steps-index c.args.scripts.now c.loop-steps.invariant.0 within in
    let few = c.requires.can.few_clients in
    let len = c.len.ensures in
    let ok = c.loop-steps.plans.ok.0 in
    omega (arith, within, many, few, len, ok)

pub overflow_add-client : goal.overflow_add-client
overflow_add-client g c =
    let within = c.loop-steps-test.true in
    let many = plans_counted c.loop-steps.steps-index c.args.scripts.now c.loop-steps.invariant.0 within in
    let few = c.requires.can.few_clients in
    let len = c.len.ensures in
    let ok = c.loop-steps.plans.ok.0 in
    omega (arith, within, many, few, len, ok)
