use Rattle.std.proofs.Common.{◌∙◌, List, ap, sym, subst, refl}
use Rattle.lane_record.specs.declared.item.Item.{Item}
use Rattle.lane_record.specs.NextEntry.{the_seal}
use Rattle.hub_lane.specs.Lanes.{BoardStatus, IsLane}
use Rattle.hub_lane.proofs.Lanes.{lane_entry}
use Rattle.lane_record.specs.Claims.{claims}
use Rattle.lane_tables.proofs.AskedRows.{same_claims}
use Rattle.hub_lane.proofs.LaneRuns.{run_claims}
use Rattle.hub_lane.proofs.lane.Lane.seal.Goals as goal

pub invariant_of-self : goal.invariant_of-self
invariant_of-self g c =
    let l = c.self.inside in
    let status : BoardStatus = record { mtu = l.mtu; buffers = l.buffers; next = l.first } in (
      subst (λ (items : List Item). IsLane l.settings status l.engine items l.outcomes.items l.outcomes.lates
          l.give_ups l.down l.spent
          (g.L.Link.telling l.link) (g.L.Link.faults l.link) (g.L.Link.quiets l.link)) (sym c.seal.ensures)
          (lane_entry l.settings status l.engine l.book.items l.outcomes.items l.outcomes.lates l.give_ups l.down
          l.spent
          (g.L.Link.telling l.link) (g.L.Link.faults l.link) (g.L.Link.quiets l.link) the_seal refl tt
          (λ kept. c.entries_go_into_the_book.ensures.seal l.book.items l.outcomes.items l.engine.window l.give_ups kept
          (sym c.is_sealed.ensures ∙ c.if-not-is_sealed.true)) c.self.invariant.0),
      c.self.invariant.1,
      c.self.invariant.2,
      c.self.invariant.3,
      run_claims (ap claims c.seal.ensures ∙ same_claims l.book.items the_seal refl) c.self.invariant.4,
    )
