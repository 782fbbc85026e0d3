use Rattle.std.proofs.Common.{◌≡◌, ◌<◌, ◌∙◌, ◌+◌, ◌++◌, ◌∷◌, [], List, ap, drop, get_or, length, refl, subst, sym, arith}
use Rattle.std.proofs.lemmas.Grind.{common_steps}
use Rattle.std.proofs.lemmas.Result.{IfOk-from_err}
use Rattle.std.specs.Vec.{vec_len}
use Rattle.script_plans.specs.Plan.{ClientBodies}
use Rattle.board_greeting.specs.Standings.{positions_at_hub}
use Rattle.session_run.proofs.PlanningLanes.{NextLane, all_planned, gone_between, gone_within, lane_planned, next_at_hub}
use Rattle.session_run.proofs.PlanningLanes.{next_lane, next_skipped, next_unused, none_left, none_planned}
use Rattle.session_run.proofs.PlanningLanes.{partly_there, planned_there, so_far_at, still_long}
use Rattle.session_run.proofs.PlanningLanes.{unused_gone}
use Rattle.session_run.proofs.lanes.plan_lanes.Goals as goal

pub loop-position-init : goal.loop-position-init
loop-position-init g c =
    let made = c.in_ok-made.ensures in
    let none : vec_len c.in_ok-made.made ≡ 0 = made.len in
    record {
      so_far = rw (made.items, none)
          (none_planned g.L.Link.telling c.args.scripts.now (positions_at_hub 0 c.args.boards.now) c.args.lanes.now.items);
      left = rw none refl;
      room = (let exact = made.exact in omega (arith, exact));
    }

pub returns-in_err-made-clause-gone_on : goal.returns-in_err-made-clause-gone_on
returns-in_err-made-clause-gone_on g c =
    let law = c.a_record_is_partly_planned_on_its_way.ensures in
    unused_gone law.front law.plans g.L.Link.telling c.args.scripts.now (positions_at_hub 0 c.args.boards.now)
    c.args.lanes.now.items c.requires.positions c.requires.unused

pub loop-position-preserved-then-not-is_at_hub : goal.loop-position-preserved-then-not-is_at_hub
loop-position-preserved-then-not-is_at_hub g c = record {
  so_far = c.loop-position.invariant.so_far;
  left = next_skipped c.args.boards.now c.loop-position.position (vec_len c.loop-position.made)
      c.index-boards-position.result c.loop-position-test.true c.index-boards-position.is
      (sym c.is_at_hub.ensures ∙ c.if-not-is_at_hub.true) c.loop-position.invariant.left;
  room = c.loop-position.invariant.room;
}

pub index_mut-requires : goal.index_mut-requires
index_mut-requires g c =
    let next = next_at_hub c.args.boards.now c.loop-position.position (vec_len c.loop-position.made)
    c.index-boards-position.result c.loop-position-test.true c.index-boards-position.is
    (sym c.is_at_hub.ensures ∙ c.if-not-is_at_hub.false) c.loop-position.invariant.left in
    let there = next.there in
    let at = c.len-at.ensures in
    let all = c.requires.positions in
    let within : c.len-at.result < length c.args.lanes.now.items = omega (arith, there, all, at) in
    let same = still_long (so_far_at at c.loop-position.invariant.so_far) within in
    let long = c.loop-position.lanes.ok.0 in
    omega (arith, within, same, long)

pub plan_clients-requires-clause-unused : goal.plan_clients-requires-clause-unused
plan_clients-requires-clause-unused g c =
    let next = next_at_hub c.args.boards.now c.loop-position.position (vec_len c.loop-position.made)
    c.index-boards-position.result c.loop-position-test.true c.index-boards-position.is
    (sym c.is_at_hub.ensures ∙ c.if-not-is_at_hub.false) c.loop-position.invariant.left in
    let there = next.there in
    let at = c.len-at.ensures in
    let all = c.requires.positions in
    let within : c.len-at.result < length c.args.lanes.now.items = omega (arith, there, all, at) in
    let lane = subst (NextLane g.L.Link.telling c.args.scripts.now c.len-at.result (positions_at_hub 0 c.args.boards.now)
    c.args.lanes.now.items c.loop-position.lanes.items c.loop-position.made.items) (sym c.index_mut.ensures.value)
    (next_lane (so_far_at at c.loop-position.invariant.so_far) within all c.requires.unused c.index_mut.ensures.value) in
    next_unused lane

pub returns-in_err-planned-clause-gone_on : goal.returns-in_err-planned-clause-gone_on
returns-in_err-planned-clause-gone_on g c =
    let next = next_at_hub c.args.boards.now c.loop-position.position (vec_len c.loop-position.made)
    c.index-boards-position.result c.loop-position-test.true c.index-boards-position.is
    (sym c.is_at_hub.ensures ∙ c.if-not-is_at_hub.false) c.loop-position.invariant.left in
    let there = next.there in
    let at = c.len-at.ensures in
    let all = c.requires.positions in
    let within : c.len-at.result < length c.args.lanes.now.items = omega (arith, there, all, at) in
    let lane = subst (NextLane g.L.Link.telling c.args.scripts.now c.len-at.result (positions_at_hub 0 c.args.boards.now)
    c.args.lanes.now.items c.loop-position.lanes.items c.loop-position.made.items) (sym c.index_mut.ensures.value)
    (next_lane (so_far_at at c.loop-position.invariant.so_far) within all c.requires.unused c.index_mut.ensures.value) in
    let positions = positions_at_hub 0 c.args.boards.now in
    let position = ap (λ n. get_or positions n 0) at ∙ next.position' in
    let partly = partly_there c.args.scripts.now (get_or positions c.len-at.result 0) c.loop-position.position
    c.index_mut.result.now c.plan_clients.new.lane position c.plan_clients.ensures.some in
    let law = c.a_record_is_partly_planned_on_its_way.ensures in
    gone_within law.front law.plans c.plan_clients.new.lane _ lane refl c.plan_clients.ensures.keeps partly

pub push_reserved-requires : goal.push_reserved-requires
push_reserved-requires g c =
    let next = next_at_hub c.args.boards.now c.loop-position.position (vec_len c.loop-position.made)
    c.index-boards-position.result c.loop-position-test.true c.index-boards-position.is
    (sym c.is_at_hub.ensures ∙ c.if-not-is_at_hub.false) c.loop-position.invariant.left in
    let there = next.there in
    let at = c.len-at.ensures in
    let all = c.requires.positions in
    let room = c.loop-position.invariant.room in
    omega (arith, there, all, room)

pub loop-position-preserved : goal.loop-position-preserved
loop-position-preserved g c =
    let next = next_at_hub c.args.boards.now c.loop-position.position (vec_len c.loop-position.made)
    c.index-boards-position.result c.loop-position-test.true c.index-boards-position.is
    (sym c.is_at_hub.ensures ∙ c.if-not-is_at_hub.false) c.loop-position.invariant.left in
    let there = next.there in
    let at = c.len-at.ensures in
    let all = c.requires.positions in
    let within : c.len-at.result < length c.args.lanes.now.items = omega (arith, there, all, at) in
    let lane = subst (NextLane g.L.Link.telling c.args.scripts.now c.len-at.result (positions_at_hub 0 c.args.boards.now)
    c.args.lanes.now.items c.loop-position.lanes.items c.loop-position.made.items) (sym c.index_mut.ensures.value)
    (next_lane (so_far_at at c.loop-position.invariant.so_far) within all c.requires.unused c.index_mut.ensures.value) in
    let positions = positions_at_hub 0 c.args.boards.now in
    let position = ap (λ n. get_or positions n 0) at ∙ next.position' in
    let partly = partly_there c.args.scripts.now (get_or positions c.len-at.result 0) c.loop-position.position
    c.index_mut.result.now c.plan_clients.new.lane position c.plan_clients.ensures.some in
    let made = c.in_ok-planned.ensures in
    let len = c.push_reserved.ensures.len in
    let one_more : vec_len c.push_reserved.new.self ≡ c.len-at.result + 1 = omega (arith, at, len) in
    record {
      so_far = so_far_at one_more (lane_planned c.plan_clients.new.lane _ c.push_reserved.new.self.items
          c.in_ok-planned.planned.items lane refl
          (c.push_reserved.ensures.items
          ∙ ap (λ (p : List ClientBodies). c.loop-position.made.items ++ p ∷ []) c.from_vec.ensures)
          (planned_there (get_or positions c.len-at.result 0) position
          (record { plans = made.plans; few = made.few; lane' = made.planned })) c.plan_clients.ensures.keeps partly);
      left = next.later ∙ ap (λ n. drop n positions) (sym len);
      room = (let cap = c.push_reserved.ensures.capacity in let room = c.loop-position.invariant.room in
          omega (arith, cap, room));
    }

pub returns-clause-planned : goal.returns-clause-planned
returns-clause-planned g c =
    let over = none_left c.args.boards.now c.loop-position.position (vec_len c.loop-position.made)
    c.loop-position-test.false c.loop-position.invariant.left in
    let all = c.requires.positions in
    all_planned c.loop-position.invariant.so_far (omega (arith, over, all)) all

pub returns-clause-gone_on : goal.returns-clause-gone_on
returns-clause-gone_on g c =
    let law = c.a_record_is_partly_planned_on_its_way.ensures in
    gone_between law.front law.plans c.loop-position.invariant.so_far c.requires.positions c.requires.unused

pub plan_clients-requires-clause-can : goal.plan_clients-requires-clause-can
plan_clients-requires-clause-can g c = grind (arith, common_steps)

pub returns-in_err-made-clause-planned : goal.returns-in_err-made-clause-planned
returns-in_err-made-clause-planned g c = IfOk-from_err c.from_residual.result _ c.from_residual.ensures.0

pub returns-in_err-planned-clause-planned : goal.returns-in_err-planned-clause-planned
returns-in_err-planned-clause-planned g c =
    IfOk-from_err c.from_residual-in_err-planned.result _ c.from_residual-in_err-planned.ensures.0
