use Rattle.std.proofs.Common.{◌≡◌, ◌∙◌, ℕ, List, sym, ap, subst, refl, ◌++◌, ◌∷◌, []}
use Rattle.ipb_base.specs.Numbers.{payload_of}
use Rattle.lane_record.specs.declared.item.Item.{Item}
use Rattle.lane_record.specs.Items.{planned_count}
use Rattle.lane_record.specs.NextEntry.{plan_of}
use Rattle.hub_lane.specs.Lanes.{BoardStatus, IsLane, LaneState}
use Rattle.hub_lane.specs.Plans.{CanPlan}
use Rattle.hub_lane.proofs.Lanes.{lane_entry, lane_still}
use Rattle.hub_lane.proofs.Links.{on_any_err, same_entries}
use Rattle.lane_record.specs.Claims.{claims}
use Rattle.lane_tables.proofs.AskedRows.{same_claims}
use Rattle.hub_lane.proofs.LaneRuns.{run_claims}
use Rattle.hub_lane.proofs.lane.Lane.plan.Goals as goal

-- what is refused leaves the lane the same
pub invariant_of-self : goal.invariant_of-self
invariant_of-self g c = (
  lane_still c.make_room.ensures.items c.self.invariant.0,
  c.self.invariant.1,
  c.self.invariant.2,
  c.self.invariant.3,
  run_claims (ap claims c.make_room.ensures.items) c.self.invariant.4,
)

pub invariant_of-self-in_err-plan : goal.invariant_of-self-in_err-plan
invariant_of-self-in_err-plan g c = (
  lane_still (c.in_err-plan.ensures.unchanged ∙ c.make_room.ensures.items) c.self.invariant.0,
  c.self.invariant.1,
  c.self.invariant.2,
  c.self.invariant.3,
  run_claims (ap claims (c.in_err-plan.ensures.unchanged ∙ c.make_room.ensures.items)) c.self.invariant.4,
)

pub returns-in_err-make_room-clause-unchanged : goal.returns-in_err-make_room-clause-unchanged
returns-in_err-make_room-clause-unchanged g c =
    on_any_err _ (same_entries c.self.view_is c.make_room.ensures.items)

pub returns-in_err-plan-clause-unchanged : goal.returns-in_err-plan-clause-unchanged
returns-in_err-plan-clause-unchanged g c =
    on_any_err _ (same_entries c.self.view_is (c.in_err-plan.ensures.unchanged ∙ c.make_room.ensures.items))

pub invariant_of-self-2 : goal.invariant_of-self-2
invariant_of-self-2 g c =
    let l = c.self.inside in
    let status : BoardStatus = record { mtu = l.mtu; buffers = l.buffers; next = l.first } in
    let items = l.book.items in
    let x = plan_of c.args.client (planned_count c.args.client items) c.args.body in
    let payload : c.payload-payload.result ≡ payload_of l.mtu = c.payload-payload.ensures
    ∙ ap (λ (v : LaneState _). payload_of v.status.mtu) (sym c.self.view_is) in
    let can : CanPlan items (payload_of l.mtu) c.args.body =
    subst (λ (body : List ℕ). CanPlan items (payload_of l.mtu) body) c.as_slice.ensures
    (subst (λ (words : ℕ). CanPlan items words c.as_slice.result.now) payload c.in_ok-make_room.ensures.can) in
    let entry : c.plan.new.self.items ≡ items ++ x ∷ [] = c.in_ok-plan.ensures.entry
    ∙ ap (λ (xs : List Item). xs ++ plan_of c.args.client (planned_count c.args.client xs) c.args.body ∷ [])
    c.make_room.ensures.items in (
      subst (λ (xs : List Item). IsLane l.settings status l.engine xs l.outcomes.items l.outcomes.lates l.give_ups
          l.down l.spent
          (g.L.Link.telling l.link) (g.L.Link.faults l.link) (g.L.Link.quiets l.link)) (sym entry)
          (lane_entry l.settings status l.engine items l.outcomes.items l.outcomes.lates l.give_ups l.down l.spent
          (g.L.Link.telling l.link) (g.L.Link.faults l.link) (g.L.Link.quiets l.link) x refl can.fits
          (λ kept. c.entries_go_into_the_book.ensures.plan items l.outcomes.items l.engine.window l.give_ups
          c.args.client
          (planned_count c.args.client items) c.args.body kept
          (record { some_client = c.requires.client; next = refl; unsealed = can.unsealed })) c.self.invariant.0),
      c.self.invariant.1,
      c.self.invariant.2,
      c.self.invariant.3,
      run_claims (ap claims entry ∙ same_claims items x refl) c.self.invariant.4,
    )
