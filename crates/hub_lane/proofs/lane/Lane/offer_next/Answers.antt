use Rattle.std.proofs.Common.{◌≡◌, ◌∙◌, ℕ, List, sym, ap, subst, refl, length, ◌++◌, ◌∷◌, [], Some, None, ◌≤◌}
use Rattle.std.proofs.Common.{if◌then◌else◌, ◌||◌}
use Rattle.std.specs.Prelude.{IfSome}
use Rattle.links.specs.Receives.{receives_in}
use Rattle.links.specs.Telling.{IfTelling}
use Rattle.world_model.specs.Hub.{Hub, offer}
use Rattle.lane_record.specs.declared.outcome.Outcome.TheVariants.{LinkLost}
use Rattle.world_model.specs.Facts.{IsSendable}
use Rattle.lane_record.specs.declared.item.Item.{Item}
use Rattle.lane_record.specs.Items.{asked_count, told_by_first, plan_in}
use Rattle.lane_record.specs.NextEntry.{MayAsk, ask_of}
use Rattle.hub_lane.specs.Heard.{HasHeard, HasListened}
use Rattle.hub_lane.specs.Lanes.{BoardStatus, IsLane, LaneState}
use Rattle.hub_lane.specs.Rounds.{HasPaid, RoundAfter, Sends, round_of}
use Rattle.hub_lane.proofs.Links.{on_any_err, same_entries}
use Rattle.hub_lane.proofs.InRounds.{offered_round, same_lane_sends}
use Rattle.ipb_base.specs.Numbers.{payload_of}
use Rattle.hub_lane.proofs.Lanes.{asked_claims, body_sendable, claim_of, found_fits, lane_asks, lane_still}
use Rattle.hub_lane.proofs.Rounds.{pays_asked}
use Rattle.hub_lane.proofs.Datagrams.{asked_unheard, heard_asked}
use Rattle.hub_lane.proofs.Listened.{listened_asked}
use Rattle.lane_tables.specs.OutcomeTable.{TableState}
use Rattle.lane_record.specs.Claims.{claims}
use Rattle.reliable_engine.specs.MachineRuns.{Offer}
use Rattle.hub_lane.specs.Run.{HasRun}
use Rattle.hub_lane.proofs.LaneRuns.{run_asked, run_claims}
use Rattle.hub_lane.proofs.LostPlaces.{lost_places}
use Rattle.hub_lane.proofs.lane.Lane.offer_next.Goals as goal

pub invariant_of-self-2 : goal.invariant_of-self-2
invariant_of-self-2 g c =
    let l = c.self.inside in
    let status : BoardStatus = record { mtu = l.mtu; buffers = l.buffers; next = l.first } in
    let items = l.book.items in
    let client = c.args.client in
    let seq = asked_count client items in
    let planned_there : told_by_first plan_in client seq items ≡ Some c.in-Some.body.now = c.in-Some.ensures.some in
    let same : c.in_ok-body.body ≡ c.in-Some.body.now = c.in_ok-body.ensures.copied ∙ c.as_slice.ensures in
    let there : told_by_first plan_in client seq items ≡ Some c.in_ok-body.body =
    planned_there ∙ ap (λ (b : List ℕ). Some b) (sym same) in
    let can : IsSendable c.in_ok-body.body =
    subst IsSendable (sym c.in_ok-body.ensures.copied) (c.copy_words.ensures.sendable
    (subst (λ (b : List ℕ). length b ≤ 2242) (sym c.as_slice.ensures) (body_sendable l.mtu c.in-Some.body.now
    c.self.invariant.0.knows.mtu (found_fits (payload_of l.mtu) items client seq c.in-Some.body.now
    c.self.invariant.0.fits planned_there)))) in
    let fits = found_fits (payload_of l.mtu) items client seq c.in_ok-body.body c.self.invariant.0.fits there in
    let hub_is : c.offer.new.engine ≡ (if l.down then l.engine
    else offer l.engine (record { tag = length l.outcomes.items; body = c.in_ok-body.body })) =
    c.in_ok-offer.ensures.engine in
    let may : MayAsk items client seq l.give_ups = record {
      some_client = c.requires.client;
      next = refl;
      is_planned = c.an_ask_is_of_its_plan.ensures.planned items l.outcomes.items client seq c.in_ok-body.body
          c.self.invariant.0.kept.legal there;
      within = c.self.invariant.0.kept.within;
    } in
    let number : c.asked-seq.result ≡ seq = c.asked-seq.ensures ∙ ap (asked_count client) c.in_ok-reserve.ensures.items in
    let entry : c.ask.new.self.items ≡ items ++ ask_of client seq l.give_ups ∷ [] = c.ask.ensures
    ∙ (ap (λ (xs : List Item). xs ++ ask_of client c.asked-seq.result l.give_ups ∷ []) c.in_ok-reserve.ensures.items
    ∙ ap (λ (n : ℕ). items ++ ask_of client n l.give_ups ∷ []) number) in
    let lane = lane_asks c.each_event_leads_to_a_state_of_a_run.ensures.offered c.laws_of_late_answers.ensures
    c.only_an_offer_makes_more_bodies.ensures.offered
    c.an_ask_is_an_offer.ensures.offered c.a_failed_link_loses_what_waits.ensures.later l.settings status l.engine
    c.offer.new.engine items c.ask.new.self.items l.outcomes.items c.offer.new.self.items
    l.outcomes.lates c.offer.new.self.lates l.give_ups l.down l.spent
    (g.L.Link.telling l.link) (g.L.Link.faults l.link) (g.L.Link.quiets l.link) client seq c.in_ok-body.body
    (λ kept. c.entries_go_into_the_book.ensures.ask items l.outcomes.items l.engine.window l.give_ups client seq
    kept
    may)
    (λ kept. c.entries_go_into_the_book.ensures.ask_in_vain items l.outcomes.items l.engine.window l.give_ups
    client seq
    kept may) there can c.if-self.false
    hub_is entry
    c.in_ok-offer.ensures.items c.in_ok-offer.ensures.lates c.self.invariant.0 in (
      lane,
      pays_asked c.laws_of_rounds.ensures l.down l.spent l.mtu l.settings.rounds l.give_ups l.engine c.offer.new.engine
          (length l.outcomes.items) c.in_ok-body.body (g.L.Link.held l.link) (g.L.Link.telling l.link) c.if-self.false
          fits
          hub_is c.self.invariant.1,
      heard_asked (if l.down then Some (LinkLost None) else None) l.outcomes.items c.offer.new.self.items
          (g.L.Link.gots l.link) (asked_unheard l.down)
          c.in_ok-offer.ensures.items c.self.invariant.2,
      listened_asked status l.down l.engine c.offer.new.engine
          (record { tag = length l.outcomes.items; body = c.in_ok-body.body }) l.outcomes.items
          c.offer.new.self.items l.outcomes.lates c.offer.new.self.lates l.give_ups (receives_in (g.L.Link.traffic l.link)) hub_is
          c.in_ok-offer.ensures.items c.in_ok-offer.ensures.lates c.self.invariant.3,
      run_asked c.laws_of_runs.ensures l.down (claim_of client seq l.give_ups c.in_ok-body.body)
          (length l.outcomes.items) c.if-self.false c.self.invariant.0.ready.drained
          (ap claims entry ∙ asked_claims items client seq l.give_ups c.in_ok-body.body there)
          c.self.invariant.0.agrees.counts.each hub_is
          (c.add_ask.ensures ∙ (ap (λ (n : ℕ). if l.down then l.run else l.run ++ Offer n c.of-offered.result.value ∷ [])
          c.len-tag.ensures.count ∙ ap (λ (body : List ℕ). if l.down then l.run
          else l.run ++ Offer (length l.outcomes.items) body ∷ []) c.of-offered.ensures)) can
          c.in_ok-offer.ensures.items c.in_ok-offer.ensures.lates (lost_places lane) c.self.invariant.4,
    )

pub offer-requires : goal.offer-requires
offer-requires g c = c.self.invariant.0.ready.bodies.few

pub returns-in_default-clause-round : goal.returns-in_default-clause-round
returns-in_default-clause-round g c =
    same_lane_sends g.L.Link c.args.self.now c.args.self.now refl

pub returns-in_err-body-clause-round : goal.returns-in_err-body-clause-round
returns-in_err-body-clause-round g c =
    same_lane_sends g.L.Link c.args.self.now c.args.self.now refl

pub returns-clause-round : goal.returns-clause-round
returns-clause-round g c =
    let l = c.self.inside in
    let telling = g.L.Link.telling in
    let held = g.L.Link.held in
    subst (λ (v : LaneState _). IfTelling (telling v.link) (telling l.link)
    (λ t u. RoundAfter Sends (round_of v (held v.link) t) (record {
      hub = c.offer.new.engine;
      stopped = l.down || l.spent;
      told = u;
      held = held l.link;
    }))) c.self.view_is
    (offered_round l.down l.spent l.settings l.outcomes.items l.outcomes.lates l.engine c.offer.new.engine
    (record { tag = length l.outcomes.items; body = c.in_ok-body.body }) (held l.link) (telling l.link)
    c.in_ok-offer.ensures.engine c.self.invariant.0.standing)

-- where memory ran out the lane is the same
pub returns-in_err-reserve-clause-unchanged : goal.returns-in_err-reserve-clause-unchanged
returns-in_err-reserve-clause-unchanged g c =
    on_any_err _ (same_entries c.self.view_is c.reserve.ensures.items)

pub invariant_of-self : goal.invariant_of-self
invariant_of-self g c = (
  lane_still c.reserve.ensures.items c.self.invariant.0,
  c.self.invariant.1,
  c.self.invariant.2,
  c.self.invariant.3,
  run_claims (ap claims c.reserve.ensures.items) c.self.invariant.4,
)

pub invariant_of-self-in_err-offer : goal.invariant_of-self-in_err-offer
invariant_of-self-in_err-offer g c =
    let l = c.self.inside in
    let status : BoardStatus = record { mtu = l.mtu; buffers = l.buffers; next = l.first } in
    let link = g.L.Link in
    let holds = λ (hub : Hub) (table : TableState) (items : List Item).
    IsLane l.settings status hub items table.items table.lates l.give_ups l.down l.spent (link.telling l.link)
    (link.faults l.link) (link.quiets l.link)
    × IfSome (link.telling l.link) (HasPaid (l.down || l.spent) l.mtu l.settings.rounds l.give_ups hub
    (link.held l.link))
    × HasHeard table.items (link.gots l.link)
    × HasListened status hub table.items table.lates l.give_ups (receives_in (link.traffic l.link))
    × HasRun l.settings status hub items table.items table.lates l.down l.spent l.run (link.traffic l.link) in
    subst (λ (hub : Hub). holds hub c.offer.new.self c.reserve.new.self.items) (sym c.in_err-offer.ensures.same_engine)
    (subst (λ (table : TableState). holds l.engine table c.reserve.new.self.items)
    (sym c.in_err-offer.ensures.unchanged)
    (subst (λ (items : List Item). holds l.engine l.outcomes items) (sym c.in_ok-reserve.ensures.items)
    c.self.invariant))

pub returns-in_err-reserve-clause-round : goal.returns-in_err-reserve-clause-round
returns-in_err-reserve-clause-round g c =
    same_lane_sends g.L.Link c.args.self.now _ (same_entries c.self.view_is c.reserve.ensures.items)

pub returns-in_err-offer-clause-round : goal.returns-in_err-offer-clause-round
returns-in_err-offer-clause-round g c =
    let l = c.self.inside in
    same_lane_sends g.L.Link c.args.self.now _ (ap (λ (xs : List Item). record {
      link = l.link;
      number = g.L.Link.number l.link;
      settings = l.settings;
      status = record { mtu = l.mtu; buffers = l.buffers; next = l.first };
      hub = c.offer.new.engine;
      items = xs;
      outcomes = c.offer.new.self.items;
      lates = c.offer.new.self.lates;
      give_ups = l.give_ups;
      run = l.run;
      down = l.down;
      spent = l.spent;
    }) c.in_ok-reserve.ensures.items ∙ (ap (λ (table : TableState). record {
      link = l.link;
      number = g.L.Link.number l.link;
      settings = l.settings;
      status = record { mtu = l.mtu; buffers = l.buffers; next = l.first };
      hub = c.offer.new.engine;
      items = l.book.items;
      outcomes = table.items;
      lates = table.lates;
      give_ups = l.give_ups;
      run = l.run;
      down = l.down;
      spent = l.spent;
    }) c.in_err-offer.ensures.unchanged ∙ (ap (λ (hub : Hub). record {
      link = l.link;
      number = g.L.Link.number l.link;
      settings = l.settings;
      status = record { mtu = l.mtu; buffers = l.buffers; next = l.first };
      hub = hub;
      items = l.book.items;
      outcomes = l.outcomes.items;
      lates = l.outcomes.lates;
      give_ups = l.give_ups;
      run = l.run;
      down = l.down;
      spent = l.spent;
    }) c.in_err-offer.ensures.same_engine ∙ c.self.view_is)))
