use Rattle.std.proofs.Common.{◌∙◌, ◌∷◌, [], List, ap, subst, sym, take, arith}
use Rattle.std.proofs.lemmas.Grind.{common_steps}
use Rattle.lane_record.specs.declared.item.Item.{Item}
use Rattle.lane_record.specs.Items.{is_sealed}
use Rattle.hub_lane.specs.Lanes.{LaneState}
use Rattle.lane_record.specs.Dispatches.{plans_from}
use Rattle.session_run.proofs.PlansMade.{plan_more, plans_front, unsealed_more}
use Rattle.session_run.proofs.RoomLeft.{room_for_next}
use Rattle.session_run.specs.Room.{HasRoomFor}
use Rattle.session_run.proofs.planning.plan_bodies.Goals as goal

pub plan_body-requires-clause-unsealed : goal.plan_body-requires-clause-unsealed
plan_body-requires-clause-unsealed g c = ap (λ (l : LaneState _). is_sealed l.items) c.loop-body.invariant
    ∙ unsealed_more c.args.client c.args.lane.now.items (take c.loop-body.body-index c.args.bodies.now)
    c.requires.unsealed

pub returns-in_err-plan_body-clause-some : goal.returns-in_err-plan_body-clause-some
returns-in_err-plan_body-clause-some g c = record {
  front = plans_from c.args.client 0 (take c.loop-body.body-index c.args.bodies.now);
  is_front = plans_front c.args.client c.loop-body.body-index c.args.bodies.now;
  became = c.in_err-plan_body.ensures.unchanged ∙ c.loop-body.invariant;
}

pub loop-body-preserved : goal.loop-body-preserved
loop-body-preserved g c = plan_more c.one_more_entry_stands_behind.ensures.plan c.args.lane.now c.loop-body.lane
    c.plan_body.new.lane c.args.client c.loop-body.body-index c.args.bodies.now c.body-item.result c.requires.none
    c.loop-body.invariant c.loop-body-test.true c.body-item.is c.in_ok-plan_body.ensures.planned

pub plan_body-requires-clause-room : goal.plan_body-requires-clause-room
plan_body-requires-clause-room g c =
    subst (λ (items : List Item). HasRoomFor items (c.body-item.result ∷ []))
    (sym (ap (λ (l : LaneState _). l.items) c.loop-body.invariant))
    (room_for_next c.args.lane.now.items c.args.client c.loop-body.body-index c.args.bodies.now c.body-item.result
    c.requires.room c.loop-body-test.true c.body-item.is)

pub loop-body-init : goal.loop-body-init
loop-body-init g c = grind (arith, common_steps)

pub returns-clause-planned : goal.returns-clause-planned
returns-clause-planned g c = grind (arith, common_steps)

pub returns-clause-some : goal.returns-clause-some
returns-clause-some g c = grind (arith, common_steps)

pub returns-in_err-plan_body-clause-planned : goal.returns-in_err-plan_body-clause-planned
returns-in_err-plan_body-clause-planned g c = grind (arith, common_steps)

pub plan_body-requires-clause-client : goal.plan_body-requires-clause-client
plan_body-requires-clause-client g c = grind (arith, common_steps)

pub plan_body-requires-clause-fits : goal.plan_body-requires-clause-fits
plan_body-requires-clause-fits g c = grind (arith, common_steps)
