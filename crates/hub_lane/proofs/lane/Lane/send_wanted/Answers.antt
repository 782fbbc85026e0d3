use Rattle.std.proofs.Common.{◌≡◌, ◌∙◌, ℕ, List, Option, ap, arith, refl, sym, subst}
use Rattle.std.proofs.Common.{Bool, true, ◌||◌, inl}
use Rattle.lane_record.specs.Lates.{late_in}
use Rattle.std.specs.Prelude.{IfSome}
use Rattle.hub_lane.specs.Lanes.{LaneState, opening_of}
use Rattle.hub_lane.specs.Links.{ReceivesNothing}
use Rattle.links.specs.Telling.{IfTelling}
use Rattle.hub_lane.specs.Rounds.{HasPaid, RoundAfter, Sends, round_of}
use Rattle.hub_lane.proofs.Datagrams.{heard_down, heard_still}
use Rattle.hub_lane.proofs.Listened.{listened_sent, lost_answers, same_answers, same_prefix}
use Rattle.hub_lane.proofs.Pumps.{lost_keeps, pump_down, pump_sent, pump_spent}
use Rattle.hub_lane.proofs.Rounds.{pays_pumped, pays_stopped, still_up}
use Rattle.hub_lane.proofs.InRounds.{lane_round, same_lane_sends}
use Rattle.hub_lane.proofs.Links.{did_not_go_down, same_opening, same_record, went_down}
use Rattle.hub_lane.proofs.Fates.{told_lost, told_none}
use Rattle.hub_lane.proofs.LaneRuns.{run_down, run_on, run_spent}
use Rattle.hub_lane.proofs.LostPlaces.{lost_places}
use Rattle.hub_lane.proofs.Ready.{same_sent}
use Rattle.hub_lane.proofs.Runs.{ran_by}
use Rattle.links.specs.declared.link.LinkFault.TheVariants.{Failed, NoMemory}
use Rattle.hub_lane.proofs.lane.Lane.send_wanted.Goals as goal

pub invariant_of-self : goal.invariant_of-self
invariant_of-self g c =
    let laws = c.laws_of_pumps.ensures in
    let l = c.self.inside in
    let telling = g.L.Link.telling in
    let sent = c.send_all.ensures in
    let up = c.if-self.false in
    let lane = pump_sent laws c.if-self-2.false up c.self.invariant.0
    {faults_now = g.L.Link.faults c.send_all.new.link} sent.some c.in-Ok.ensures.running sent.unanswered
    sent.unreceived.quiets sent.unreceived.board in (
      lane,
      pays_pumped l.down l.spent l.mtu l.settings.rounds l.give_ups l.give_ups l.engine c.send_all.new.hub
          (g.L.Link.held l.link) (g.L.Link.held c.send_all.new.link) (telling l.link) (telling c.send_all.new.link)
          c.if-self-2.false up c.self.invariant.0.knows.rounds
          (c.in-Ok.ensures.pays l.settings l.outcomes.items l.outcomes.lates l.mtu l.engine.rounds l.give_ups
          (still_up l.down l.spent l.settings l.engine l.outcomes.items l.outcomes.lates (telling l.link)
          c.if-self-2.false
          up c.self.invariant.0.standing)) c.self.invariant.1,
      heard_still l.outcomes.items (g.L.Link.gots l.link) (g.L.Link.gots c.send_all.new.link)
          (let same = sent.unreceived.gots in omega (arith, same)) refl c.self.invariant.2,
      listened_sent sent.some refl (same_answers refl refl) (same_prefix sent.unreceived.receives) c.self.invariant.3,
      run_on c.laws_of_runs.ensures c.if-self-2.false up c.self.invariant.0.ready.drained c.self.invariant.4 refl
          (told_none lane.ready.drained.fates lane.ready.drained.lates refl refl) (lost_places lane)
          c.in-Ok.ensures.ran,
    )

pub invariant_of-self-in-Err-Failed : goal.invariant_of-self-in-Err-Failed
invariant_of-self-in-Err-Failed g c =
    let laws = c.laws_of_pumps.ensures in
    let l = c.self.inside in
    let telling = g.L.Link.telling in
    let sent = c.send_all.ensures in
    let up = c.if-self.false in
    let lane = pump_down laws c.if-self-2.false up c.self.invariant.0 sent.some c.in-Err-Failed.ensures.stopped
    sent.unanswered (sent.faults.failed (cc)) sent.unreceived.quiets refl refl c.lose_all.ensures.lates c.sent.ensures
    c.lose_all.ensures.outcomes sent.unreceived.board in (
      lane,
      pays_stopped c.laws_of_rounds.ensures (l.down || l.spent) l.mtu l.settings.rounds l.give_ups l.give_ups
          l.engine c.send_all.new.hub (g.L.Link.held l.link) (g.L.Link.held c.send_all.new.link) (telling l.link)
          (telling c.send_all.new.link) sent.unreceived.board refl sent.unreceived.held c.self.invariant.1,
      heard_down c.sent.result sent.unreceived.gots refl c.lose_all.ensures.outcomes c.self.invariant.2,
      listened_sent sent.some refl
          (lost_answers laws.lost_adds c.sent.result refl c.lose_all.ensures.outcomes c.lose_all.ensures.lates)
          (same_prefix sent.unreceived.receives) c.self.invariant.3,
      run_down c.laws_of_runs.ensures c.if-self-2.false up c.self.invariant.0.ready.drained c.self.invariant.4
          (told_lost laws.lost_keeps laws.lost_adds c.sent.result lane.ready.drained.fates lane.ready.drained.lates refl
          c.lose_all.ensures.outcomes c.lose_all.ensures.lates) (lost_places lane)
          (ran_by Failed c.in-Err-Failed.field-0 (cc) c.in-Err-Failed.ensures.cut),
    )

pub invariant_of-self-in-Err-NoMemory : goal.invariant_of-self-in-Err-NoMemory
invariant_of-self-in-Err-NoMemory g c =
    let laws = c.laws_of_pumps.ensures in
    let l = c.self.inside in
    let telling = g.L.Link.telling in
    let sent = c.send_all.ensures in
    let up = c.if-self.false in
    let waits = sym c.waiting.ensures ∙ c.if-not-waiting.false in
    let lane = pump_spent laws c.if-self-2.false up c.self.invariant.0
    {faults_now = g.L.Link.faults c.send_all.new.link} {quiets_now = g.L.Link.quiets c.send_all.new.link} sent.some
    c.in-Err-NoMemory.ensures.stopped (inl sent.unanswered)
    (let same = sent.unreceived.quiets in omega (arith, same)) refl refl refl sent.unreceived.board in (
      lane,
      subst (λ (b : Bool). IfSome (telling c.send_all.new.link) (HasPaid (b || true) l.mtu l.settings.rounds
          l.give_ups c.send_all.new.hub (g.L.Link.held c.send_all.new.link))) (sym c.if-self-2.false)
          (pays_stopped c.laws_of_rounds.ensures (l.down || l.spent) l.mtu l.settings.rounds l.give_ups l.give_ups
          l.engine c.send_all.new.hub (g.L.Link.held l.link) (g.L.Link.held c.send_all.new.link) (telling l.link)
          (telling c.send_all.new.link) sent.unreceived.board refl sent.unreceived.held c.self.invariant.1),
      heard_still l.outcomes.items (g.L.Link.gots l.link) (g.L.Link.gots c.send_all.new.link)
          (let same = sent.unreceived.gots in omega (arith, same)) refl c.self.invariant.2,
      listened_sent sent.some refl (same_answers refl refl) (same_prefix sent.unreceived.receives) c.self.invariant.3,
      run_spent c.laws_of_runs.ensures c.if-self-2.false up c.self.invariant.0.ready.drained c.self.invariant.4
          ((same_sent l.engine c.send_all.new.hub sent.some).waits ∙ waits)
          (told_none lane.ready.drained.fates lane.ready.drained.lates refl refl) (lost_places lane)
          (ran_by NoMemory c.in-Err-NoMemory.field-0 (cc) c.in-Err-NoMemory.ensures.cut),
    )

pub returns-in-Ok-clause-round : goal.returns-in-Ok-clause-round
returns-in-Ok-clause-round g c =
    let l = c.self.inside in
    let telling = g.L.Link.telling in
    let held = g.L.Link.held in
    subst (λ (v : LaneState _). IfTelling (telling v.link) (telling c.send_all.new.link)
    (λ t u. RoundAfter Sends (round_of v (held v.link) t) (record {
      hub = c.send_all.new.hub;
      stopped = l.down || l.spent;
      told = u;
      held = held c.send_all.new.link;
    }))) c.self.view_is
    (lane_round Sends l.down l.spent l.settings l.outcomes.items l.outcomes.lates l.mtu l.give_ups l.engine
    c.send_all.new.hub
    (held l.link) (held c.send_all.new.link) (telling l.link) (telling c.send_all.new.link) c.if-self-2.false
    c.if-self.false c.in-Ok.ensures.round c.self.invariant.0.standing c.self.invariant.1)

pub returns-in-Err-Failed-clause-same : goal.returns-in-Err-Failed-clause-same
returns-in-Err-Failed-clause-same g c =
    same_record c.self.view_is (record {
      number = c.send_all.ensures.unreceived.number;
      settings = refl;
      status = refl;
      items = refl;
      outcomes = lost_keeps c.laws_of_pumps.ensures.lost_keeps c.sent.result refl c.lose_all.ensures.outcomes;
      lates = λ place words there. ap (λ (ls : List (Option (List ℕ))). late_in ls place) c.lose_all.ensures.lates
          ∙ there;
      give_ups = omega arith;
    })

pub returns-in-Err-Failed-clause-down : goal.returns-in-Err-Failed-clause-down
returns-in-Err-Failed-clause-down g c =
    went_down c.self.view_is g.L.Link refl (c.send_all.ensures.faults.failed (cc))

pub returns-in-Err-NoMemory-clause-down : goal.returns-in-Err-NoMemory-clause-down
returns-in-Err-NoMemory-clause-down g c =
    did_not_go_down c.self.view_is g.L.Link _ refl c.send_all.ensures.faults.unfaulted (λ e. cc)

pub returns-in-Ok-clause-down : goal.returns-in-Ok-clause-down
returns-in-Ok-clause-down g c =
    did_not_go_down c.self.view_is g.L.Link _ refl c.send_all.ensures.faults.unfaulted (λ e. cc)

pub returns-in-Ok-clause-unreceived : goal.returns-in-Ok-clause-unreceived
returns-in-Ok-clause-unreceived g c =
    subst (λ (v : LaneState _). ReceivesNothing g.L.Link v.link c.send_all.new.link) c.self.view_is
    c.send_all.ensures.unreceived

pub returns-in-Err-Failed-clause-unreceived : goal.returns-in-Err-Failed-clause-unreceived
returns-in-Err-Failed-clause-unreceived g c =
    subst (λ (v : LaneState _). ReceivesNothing g.L.Link v.link c.send_all.new.link) c.self.view_is
    c.send_all.ensures.unreceived

pub returns-in-Err-NoMemory-clause-unreceived : goal.returns-in-Err-NoMemory-clause-unreceived
returns-in-Err-NoMemory-clause-unreceived g c =
    subst (λ (v : LaneState _). ReceivesNothing g.L.Link v.link c.send_all.new.link) c.self.view_is
    c.send_all.ensures.unreceived

pub returns-in-Ok-clause-opening : goal.returns-in-Ok-clause-opening
returns-in-Ok-clause-opening g c =
    let telling = g.L.Link.telling in
    subst (λ (v : LaneState _). opening_of (telling c.send_all.new.link) ≡ opening_of (telling v.link))
    c.self.view_is (same_opening (telling c.self.inside.link) (telling c.send_all.new.link)
    c.send_all.ensures.unreceived.board)

pub returns-in-Err-Failed-clause-opening : goal.returns-in-Err-Failed-clause-opening
returns-in-Err-Failed-clause-opening g c =
    let telling = g.L.Link.telling in
    subst (λ (v : LaneState _). opening_of (telling c.send_all.new.link) ≡ opening_of (telling v.link))
    c.self.view_is (same_opening (telling c.self.inside.link) (telling c.send_all.new.link)
    c.send_all.ensures.unreceived.board)

pub returns-in-Err-NoMemory-clause-opening : goal.returns-in-Err-NoMemory-clause-opening
returns-in-Err-NoMemory-clause-opening g c =
    let telling = g.L.Link.telling in
    subst (λ (v : LaneState _). opening_of (telling c.send_all.new.link) ≡ opening_of (telling v.link))
    c.self.view_is (same_opening (telling c.self.inside.link) (telling c.send_all.new.link)
    c.send_all.ensures.unreceived.board)

-- a lane that sends nothing stays as it was
pub returns-then-not-waiting-clause-round : goal.returns-then-not-waiting-clause-round
returns-then-not-waiting-clause-round g c = same_lane_sends g.L.Link c.args.self.now c.args.self.now refl
