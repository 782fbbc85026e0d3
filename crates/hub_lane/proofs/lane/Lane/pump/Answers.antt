use Rattle.std.proofs.Common.{◌≡◌, ◌∙◌, ℕ, List, Option, ap, arith, sym, subst, refl}
use Rattle.std.proofs.Common.{Bool, true, ◌||◌, inr}
use Rattle.std.proofs.Common.{length}
use Rattle.std.specs.List.{slice_get}
use Rattle.world_model.specs.Hub.{after_handing_out}
use Rattle.lane_record.specs.declared.outcome.Outcome.{Outcome}
use Rattle.lane_record.specs.Lates.{late_in}
use Rattle.lane_record.specs.Offers.{all_lost}
use Rattle.std.specs.Prelude.{IfSome}
use Rattle.links.specs.Receives.{receives_in}
use Rattle.links.specs.Telling.{IfTelling}
use Rattle.hub_lane.specs.Carrying.{Pumping}
use Rattle.hub_lane.specs.declared.answers.Pumped.TheVariants.{LinkDown}
use Rattle.hub_lane.specs.Lanes.{LaneState, opening_of}
use Rattle.hub_lane.specs.Links.{CountsPump, KeepsCounting}
use Rattle.hub_lane.proofs.Carrying.{pumping}
use Rattle.hub_lane.specs.Rounds.{HasPaid, Pumps, RoundAfter, round_of}
use Rattle.hub_lane.proofs.Datagrams.{heard_down, heard_still}
use Rattle.hub_lane.proofs.Listened.{listened_sent, lost_answers, same_answers}
use Rattle.hub_lane.proofs.Pumps.{lost_keeps, pump_down, pump_heard, pump_listened, pump_received}
use Rattle.hub_lane.proofs.Pumps.{pump_spent, pump_told}
use Rattle.hub_lane.proofs.Rounds.{pays_pumped, pays_stopped, still_up}
use Rattle.hub_lane.proofs.InRounds.{lane_round, same_lane_idle}
use Rattle.hub_lane.proofs.Links.{did_not_go_down, if_both, is_spent, nothing_counted, pumps_as, same_opening}
use Rattle.hub_lane.proofs.Links.{same_record, still_as_down, went_down}
use Rattle.hub_lane.proofs.Steps.{same_record as same_lane}
use Rattle.hub_lane.proofs.Fates.{told_lost, told_none}
use Rattle.hub_lane.proofs.LaneRuns.{run_down, run_on, run_spent}
use Rattle.hub_lane.proofs.LostPlaces.{lost_places}
use Rattle.hub_lane.proofs.Ready.{same_sent}
use Rattle.hub_lane.proofs.Runs.{ran_by}
use Rattle.links.specs.declared.link.LinkFault.TheVariants.{Failed, NoMemory}
use Rattle.hub_lane.proofs.lane.Lane.pump.Goals as goal

pub invariant_of-self : goal.invariant_of-self
invariant_of-self g c =
    let laws = c.laws_of_pumps.ensures in
    let settled = c.in-Ok.ensures.settled in
    let l = c.self.inside in
    let telling = g.L.Link.telling in
    let pumps = pump_received laws c.if-self-2.false c.if-self.false c.self.invariant.0 c.exchange.new.buffer.items
    c.in-Ok.pumped (telling c.exchange.new.link) (g.L.Link.faults c.exchange.new.link)
    (sym c.waiting.ensures ∙ c.if-not-waiting.false) settled.event settled.hub settled.outcomes settled.lates
    settled.give_ups c.in-Ok.ensures.received.counts.quiets c.in-Ok.ensures.running c.in-Ok.ensures.told.unanswered
    c.exchange.ensures.counts.board in (
      pumps.lane,
      pays_pumped l.down l.spent l.mtu l.settings.rounds l.give_ups c.exchange.new.give_ups l.engine c.exchange.new.hub
          (g.L.Link.held l.link) (g.L.Link.held c.exchange.new.link) (telling l.link) (telling c.exchange.new.link)
          c.if-self-2.false c.if-self.false c.self.invariant.0.knows.rounds (c.in-Ok.ensures.pays l.settings l.mtu
          (still_up l.down l.spent l.settings l.engine l.outcomes.items l.outcomes.lates (telling l.link)
          c.if-self-2.false
          c.if-self.false
          c.self.invariant.0.standing)) c.self.invariant.1,
      pump_heard laws c.if-self-2.false c.if-self.false c.self.invariant.0 c.exchange.new.buffer.items
          c.in-Ok.pumped (g.L.Link.gots l.link) settled.event settled.outcomes c.in-Ok.ensures.received.counts.gots
          c.self.invariant.2,
      pump_listened laws c.if-self-2.false c.if-self.false c.self.invariant.0 c.exchange.new.buffer.items
          c.in-Ok.pumped (sym c.waiting.ensures ∙ c.if-not-waiting.false) settled.event settled.hub settled.outcomes
          settled.lates settled.give_ups c.in-Ok.ensures.received.receives c.self.invariant.3,
      run_on c.laws_of_runs.ensures c.if-self-2.false c.if-self.false c.self.invariant.0.ready.drained
          c.self.invariant.4 (ap after_handing_out (sym settled.hub))
          (pump_told laws c.if-self-2.false c.if-self.false c.self.invariant.0 c.exchange.new.buffer.items
          c.in-Ok.pumped settled.event settled.outcomes settled.lates) (lost_places pumps.lane) c.in-Ok.ensures.ran,
    )

pub invariant_of-self-in-Err-Failed : goal.invariant_of-self-in-Err-Failed
invariant_of-self-in-Err-Failed g c =
    let laws = c.laws_of_pumps.ensures in
    let unsettled = c.in-Err-Failed.ensures.unsettled in
    let l = c.self.inside in
    let telling = g.L.Link.telling in
    let lane = pump_down laws c.if-self-2.false c.if-self.false c.self.invariant.0 unsettled.sent
    c.in-Err-Failed.ensures.stopped (c.exchange.ensures.failed (cc)).unanswered
    (c.exchange.ensures.faults.failed (cc)) (c.exchange.ensures.failed (cc)).receives.quiets unsettled.give_ups
    unsettled.outcomes (c.lose_all.ensures.lates ∙ unsettled.lates) c.sent.ensures c.lose_all.ensures.outcomes
    c.exchange.ensures.counts.board in (
      lane,
      pays_stopped c.laws_of_rounds.ensures (l.down || l.spent) l.mtu l.settings.rounds l.give_ups
          c.exchange.new.give_ups
          l.engine c.exchange.new.hub (g.L.Link.held l.link) (g.L.Link.held c.exchange.new.link) (telling l.link)
          (telling c.exchange.new.link) c.exchange.ensures.counts.board unsettled.give_ups
          c.exchange.ensures.counts.held c.self.invariant.1,
      heard_down c.sent.result (c.exchange.ensures.failed (cc)).receives.gots unsettled.outcomes
          c.lose_all.ensures.outcomes c.self.invariant.2,
      listened_sent unsettled.sent unsettled.give_ups
          (lost_answers laws.lost_adds c.sent.result unsettled.outcomes c.lose_all.ensures.outcomes
          (c.lose_all.ensures.lates ∙ unsettled.lates)) c.exchange.ensures.counts.receives c.self.invariant.3,
      run_down c.laws_of_runs.ensures c.if-self-2.false c.if-self.false c.self.invariant.0.ready.drained
          c.self.invariant.4
          (told_lost laws.lost_keeps laws.lost_adds c.sent.result lane.ready.drained.fates lane.ready.drained.lates
          unsettled.outcomes c.lose_all.ensures.outcomes (c.lose_all.ensures.lates ∙ unsettled.lates))
          (lost_places lane) (ran_by Failed c.in-Err-Failed.field-0 (cc) c.in-Err-Failed.ensures.cut),
    )

pub invariant_of-self-in-Err-NoMemory : goal.invariant_of-self-in-Err-NoMemory
invariant_of-self-in-Err-NoMemory g c =
    let laws = c.laws_of_pumps.ensures in
    let unsettled = c.in-Err-NoMemory.ensures.unsettled in
    let l = c.self.inside in
    let telling = g.L.Link.telling in
    let waits = sym c.waiting.ensures ∙ c.if-not-waiting.false in
    let lane = pump_spent laws c.if-self-2.false c.if-self.false c.self.invariant.0
    {faults_now = g.L.Link.faults c.exchange.new.link} unsettled.sent c.in-Err-NoMemory.ensures.stopped (inr waits)
    c.exchange.ensures.counts.quiets unsettled.give_ups unsettled.outcomes unsettled.lates
    c.exchange.ensures.counts.board in (
      lane,
      subst (λ (b : Bool). IfSome (telling c.exchange.new.link) (HasPaid (b || true) l.mtu l.settings.rounds
          c.exchange.new.give_ups c.exchange.new.hub (g.L.Link.held c.exchange.new.link))) (sym c.if-self-2.false)
          (pays_stopped c.laws_of_rounds.ensures (l.down || l.spent) l.mtu l.settings.rounds l.give_ups
          c.exchange.new.give_ups l.engine c.exchange.new.hub (g.L.Link.held l.link) (g.L.Link.held c.exchange.new.link)
          (telling l.link) (telling c.exchange.new.link) c.exchange.ensures.counts.board unsettled.give_ups
          c.exchange.ensures.counts.held c.self.invariant.1),
      heard_still l.outcomes.items (g.L.Link.gots l.link) (g.L.Link.gots c.exchange.new.link)
          c.exchange.ensures.counts.gots unsettled.outcomes c.self.invariant.2,
      listened_sent unsettled.sent unsettled.give_ups (same_answers unsettled.outcomes unsettled.lates)
          c.exchange.ensures.counts.receives c.self.invariant.3,
      run_spent c.laws_of_runs.ensures c.if-self-2.false c.if-self.false c.self.invariant.0.ready.drained
          c.self.invariant.4 ((same_sent l.engine c.exchange.new.hub unsettled.sent).waits ∙ waits)
          (told_none lane.ready.drained.fates lane.ready.drained.lates unsettled.outcomes unsettled.lates)
          (lost_places lane) (ran_by NoMemory c.in-Err-NoMemory.field-0 (cc) c.in-Err-NoMemory.ensures.cut),
    )

pub returns-in-Ok-clause-same : goal.returns-in-Ok-clause-same
returns-in-Ok-clause-same g c =
    let laws = c.laws_of_pumps.ensures in
    let settled = c.in-Ok.ensures.settled in
    let done = pump_received laws c.if-self-2.false c.if-self.false c.self.invariant.0 c.exchange.new.buffer.items
    c.in-Ok.pumped (g.L.Link.telling c.exchange.new.link) (g.L.Link.faults c.exchange.new.link)
    (sym c.waiting.ensures ∙ c.if-not-waiting.false) settled.event settled.hub settled.outcomes settled.lates
    settled.give_ups c.in-Ok.ensures.received.counts.quiets c.in-Ok.ensures.running c.in-Ok.ensures.told.unanswered
    c.exchange.ensures.counts.board in
    same_record c.self.view_is (record {
      number = c.exchange.ensures.counts.number;
      settings = refl;
      status = refl;
      items = refl;
      outcomes = done.keeps;
      lates = done.keeps_lates;
      give_ups = done.more;
    })

pub returns-in-Ok-clause-link : goal.returns-in-Ok-clause-link
returns-in-Ok-clause-link g c =
    let l = c.self.inside in
    let telling = g.L.Link.telling in
    subst (λ (v : LaneState _). IfTelling (telling v.link) (telling c.exchange.new.link)
    (Pumping c.in-Ok.pumped v.hub c.exchange.new.hub)) c.self.view_is
    (pumping c.in-Ok.pumped c.exchange.new.buffer.items l.engine c.exchange.new.hub (telling l.link)
    (telling c.exchange.new.link) c.in-Ok.ensures.settled.event c.in-Ok.ensures.settled.hub
    c.in-Ok.ensures.told.carries)

pub returns-in-Ok-clause-round : goal.returns-in-Ok-clause-round
returns-in-Ok-clause-round g c =
    let l = c.self.inside in
    let telling = g.L.Link.telling in
    let held = g.L.Link.held in
    subst (λ (v : LaneState _). IfTelling (telling v.link) (telling c.exchange.new.link)
    (λ t u. RoundAfter (Pumps c.in-Ok.pumped) (round_of v (held v.link) t) (record {
      hub = c.exchange.new.hub;
      stopped = l.down || l.spent;
      told = u;
      held = held c.exchange.new.link;
    }))) c.self.view_is
    (lane_round (Pumps c.in-Ok.pumped) l.down l.spent l.settings l.outcomes.items l.outcomes.lates l.mtu l.give_ups
    l.engine
    c.exchange.new.hub (held l.link) (held c.exchange.new.link) (telling l.link) (telling c.exchange.new.link)
    c.if-self-2.false c.if-self.false c.in-Ok.ensures.told.round c.self.invariant.0.standing c.self.invariant.1)

pub returns-then-not-waiting-clause-round : goal.returns-then-not-waiting-clause-round
returns-then-not-waiting-clause-round g c =
    same_lane_idle g.L.Link c.args.self.now c.args.self.now refl

pub returns-in-Err-Failed-clause-same : goal.returns-in-Err-Failed-clause-same
returns-in-Err-Failed-clause-same g c =
    let same_give_ups = c.in-Err-Failed.ensures.unsettled.give_ups in
    same_record c.self.view_is (record {
      number = c.exchange.ensures.counts.number;
      settings = refl;
      status = refl;
      items = refl;
      outcomes = lost_keeps c.laws_of_pumps.ensures.lost_keeps c.sent.result
          c.in-Err-Failed.ensures.unsettled.outcomes
          c.lose_all.ensures.outcomes;
      lates = λ place words there. ap (λ (ls : List (Option (List ℕ))). late_in ls place)
          (c.lose_all.ensures.lates ∙ c.in-Err-Failed.ensures.unsettled.lates) ∙ there;
      give_ups = omega (arith, same_give_ups);
    })

pub returns-in-Ok-clause-down : goal.returns-in-Ok-clause-down
returns-in-Ok-clause-down g c =
    did_not_go_down c.self.view_is g.L.Link _ refl c.exchange.ensures.faults.unfaulted (λ e. cc)

pub returns-in-Ok-clause-counts : goal.returns-in-Ok-clause-counts
returns-in-Ok-clause-counts g c =
    subst (λ (v : LaneState _). KeepsCounting g.L.Link v.link c.exchange.new.link) c.self.view_is
    c.exchange.ensures.counts

pub returns-in-Err-Failed-clause-down : goal.returns-in-Err-Failed-clause-down
returns-in-Err-Failed-clause-down g c =
    went_down c.self.view_is g.L.Link refl (c.exchange.ensures.faults.failed (cc))

pub returns-in-Err-Failed-clause-counts : goal.returns-in-Err-Failed-clause-counts
returns-in-Err-Failed-clause-counts g c =
    subst (λ (v : LaneState _). KeepsCounting g.L.Link v.link c.exchange.new.link) c.self.view_is
    c.exchange.ensures.counts

pub returns-in-Err-NoMemory-clause-down : goal.returns-in-Err-NoMemory-clause-down
returns-in-Err-NoMemory-clause-down g c =
    did_not_go_down c.self.view_is g.L.Link _ refl c.exchange.ensures.faults.unfaulted (λ e. cc)

pub returns-in-Err-NoMemory-clause-counts : goal.returns-in-Err-NoMemory-clause-counts
returns-in-Err-NoMemory-clause-counts g c =
    subst (λ (v : LaneState _). KeepsCounting g.L.Link v.link c.exchange.new.link) c.self.view_is
    c.exchange.ensures.counts

pub returns-in-Ok-clause-counted : goal.returns-in-Ok-clause-counted
returns-in-Ok-clause-counted g c =
    subst (λ (v : LaneState _). CountsPump g.L.Link c.in-Ok.pumped v.link c.exchange.new.link) c.self.view_is
    c.in-Ok.ensures.received.counts

pub returns-in-Ok-clause-opening : goal.returns-in-Ok-clause-opening
returns-in-Ok-clause-opening g c =
    let telling = g.L.Link.telling in
    subst (λ (v : LaneState _). opening_of (telling c.exchange.new.link) ≡ opening_of (telling v.link))
    c.self.view_is (same_opening (telling c.self.inside.link) (telling c.exchange.new.link)
    c.exchange.ensures.counts.board)

pub returns-in-Err-Failed-clause-opening : goal.returns-in-Err-Failed-clause-opening
returns-in-Err-Failed-clause-opening g c =
    let telling = g.L.Link.telling in
    subst (λ (v : LaneState _). opening_of (telling c.exchange.new.link) ≡ opening_of (telling v.link))
    c.self.view_is (same_opening (telling c.self.inside.link) (telling c.exchange.new.link)
    c.exchange.ensures.counts.board)

pub returns-in-Err-NoMemory-clause-opening : goal.returns-in-Err-NoMemory-clause-opening
returns-in-Err-NoMemory-clause-opening g c =
    let telling = g.L.Link.telling in
    subst (λ (v : LaneState _). opening_of (telling c.exchange.new.link) ≡ opening_of (telling v.link))
    c.self.view_is (same_opening (telling c.self.inside.link) (telling c.exchange.new.link)
    c.exchange.ensures.counts.board)

pub returns-in-Err-Failed-clause-link : goal.returns-in-Err-Failed-clause-link
returns-in-Err-Failed-clause-link g c =
    let l = c.self.inside in
    let telling = g.L.Link.telling in
    subst (λ (v : LaneState _). IfTelling (telling v.link) (telling c.exchange.new.link)
    (Pumping LinkDown v.hub c.exchange.new.hub)) c.self.view_is
    (if_both (Pumping LinkDown l.engine c.exchange.new.hub) (telling l.link) (telling c.exchange.new.link)
    c.exchange.ensures.counts.board (λ t u. tt))

pub returns-in-Err-Failed-clause-round : goal.returns-in-Err-Failed-clause-round
returns-in-Err-Failed-clause-round g c =
    let l = c.self.inside in
    let telling = g.L.Link.telling in
    let held = g.L.Link.held in
    subst (λ (v : LaneState _). IfTelling (telling v.link) (telling c.exchange.new.link)
    (λ t u. RoundAfter (Pumps LinkDown) (round_of v (held v.link) t) (record {
      hub = c.exchange.new.hub;
      stopped = true;
      told = u;
      held = held c.exchange.new.link;
    }))) c.self.view_is
    (if_both (λ t u. true ≡ true) (telling l.link) (telling c.exchange.new.link) c.exchange.ensures.counts.board
    (λ t u. refl))

-- a pump that does nothing leaves the lane as it was
pub returns-then-self-clause-same : goal.returns-then-self-clause-same
returns-then-self-clause-same g c = same_lane c.args.self.now c.args.self.now refl

pub returns-then-self-clause-down : goal.returns-then-self-clause-down
returns-then-self-clause-down g c = still_as_down g.L.Link c.args.self.now

pub returns-then-self-clause-counts : goal.returns-then-self-clause-counts
returns-then-self-clause-counts g c = nothing_counted g.L.Link c.args.self.now.link

pub returns-then-self-2-clause-same : goal.returns-then-self-2-clause-same
returns-then-self-2-clause-same g c = same_lane c.args.self.now c.args.self.now refl

pub returns-then-self-2-clause-down : goal.returns-then-self-2-clause-down
returns-then-self-2-clause-down g c = still_as_down g.L.Link c.args.self.now

pub returns-then-self-2-clause-counts : goal.returns-then-self-2-clause-counts
returns-then-self-2-clause-counts g c = nothing_counted g.L.Link c.args.self.now.link

pub returns-then-not-waiting-clause-same : goal.returns-then-not-waiting-clause-same
returns-then-not-waiting-clause-same g c = same_lane c.args.self.now c.args.self.now refl

pub returns-then-not-waiting-clause-down : goal.returns-then-not-waiting-clause-down
returns-then-not-waiting-clause-down g c = still_as_down g.L.Link c.args.self.now

pub returns-then-not-waiting-clause-counts : goal.returns-then-not-waiting-clause-counts
returns-then-not-waiting-clause-counts g c = nothing_counted g.L.Link c.args.self.now.link

pub exchange-requires-clause-ready : goal.exchange-requires-clause-ready
exchange-requires-clause-ready g c = c.self.invariant.0.ready

pub exchange-requires-clause-waits : goal.exchange-requires-clause-waits
exchange-requires-clause-waits g c = sym c.waiting.ensures ∙ c.if-not-waiting.false

pub exchange-requires-clause-first : goal.exchange-requires-clause-first
exchange-requires-clause-first g c = sym c.self.invariant.0.knows.first

pub returns-in-Err-Failed-clause-pumped : goal.returns-in-Err-Failed-clause-pumped
returns-in-Err-Failed-clause-pumped g c =
    let unsettled = c.in-Err-Failed.ensures.unsettled in
    let lost = c.lose_all.ensures in
    pumps_as c.self.view_is g.L.Link _ (g.L.Link.telling c.exchange.new.link)
    (receives_in (g.L.Link.traffic c.exchange.new.link)) LinkDown (
      (c.exchange.ensures.failed (cc)).receives.receives,
      inr (
        c.if-self-2.false,
        sym c.waiting.ensures ∙ c.if-not-waiting.false,
        record {
          hub = unsettled.sent;
          outcomes = lost.outcomes ∙ (ap (λ (n : ℕ). all_lost n c.exchange.new.outcomes.items) c.sent.ensures
              ∙ ap (all_lost (length c.exchange.new.hub.sent)) unsettled.outcomes);
          lates = lost.lates ∙ unsettled.lates;
          give_ups = unsettled.give_ups;
          down = refl;
          spent = c.if-self.false;
        },
      ),
    )

pub returns-in-Err-NoMemory-clause-spent : goal.returns-in-Err-NoMemory-clause-spent
returns-in-Err-NoMemory-clause-spent g c =
    let unsettled = c.in-Err-NoMemory.ensures.unsettled in
    is_spent c.self.view_is (record {
      spent = refl;
      hub = unsettled.sent;
      outcomes = unsettled.outcomes;
      lates = unsettled.lates;
      give_ups = unsettled.give_ups;
      down = refl;
    })

pub returns-in-Err-NoMemory-clause-same : goal.returns-in-Err-NoMemory-clause-same
returns-in-Err-NoMemory-clause-same g c =
    let unsettled = c.in-Err-NoMemory.ensures.unsettled in
    let same_give_ups = unsettled.give_ups in
    same_record c.self.view_is (record {
      number = c.exchange.ensures.counts.number;
      settings = refl;
      status = refl;
      items = refl;
      outcomes = λ k outcome there. ap (λ (os : List (Option Outcome)). slice_get os k) unsettled.outcomes ∙ there;
      lates = λ place words there. ap (λ (ls : List (Option (List ℕ))). late_in ls place) unsettled.lates ∙ there;
      give_ups = omega (arith, same_give_ups);
    })
