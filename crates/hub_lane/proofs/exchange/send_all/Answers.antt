use Rattle.std.proofs.Common.{◌∙◌, ℕ, List, [], ◌∷◌, ◌++◌, ap, subst, refl, sym, arith}
use Rattle.reliable_engine.specs.Traffic.{Sent}
use Rattle.world_model.specs.Sends.{bytes_to_send}
use Rattle.hub_lane.specs.Run as ends
use Rattle.hub_lane.specs.Run.{RunsTo}
use Rattle.hub_lane.proofs.Runs.{goes_then, lacks_last, runs_here, runs_send}
use Rattle.world_model.specs.Hub.{Hub}
use Rattle.world_model.specs.Sends.{Next}
use Rattle.links.specs.Telling.{IfTelling, IsSent}
use Rattle.links.proofs.Sends.{next_is}
use Rattle.links.proofs.Passing.{none_sent as none_received}
use Rattle.hub_lane.proofs.Sends.{all_out, none_is, one_less, same_hub, sent_more}
use Rattle.hub_lane.specs.Carrying.{HasPut}
use Rattle.hub_lane.specs.PumpLaws.{SendLeaves}
use Rattle.hub_lane.specs.Rounds.{PaysOn, RoundFor, Sends}
use Rattle.hub_lane.specs.Standing.{GoesOn, StaysUnanswered}
use Rattle.hub_lane.proofs.Carrying.{put_more, put_none_by}
use Rattle.hub_lane.proofs.Linked.{none_counted, refused_on, refused_stays, sent_board, sent_on, sent_stays, stays_here}
use Rattle.hub_lane.proofs.Linked.{still_spelled, still_uncounted}
use Rattle.hub_lane.proofs.Links.{on_any_err, on_each_err}
use Rattle.hub_lane.proofs.Rounds.{pays_sent}
use Rattle.hub_lane.proofs.InRounds.{none_sent, round_sent, same_link}
use Rattle.hub_lane.proofs.exchange.send_all.Goals as goal

pub returns-in_err-write_send-clause-some : goal.returns-in_err-write_send-clause-some
returns-in_err-write_send-clause-some g c =
    sent_more c.args.hub.now c.loop-send.hub c.next_send.new.self c.next_send.ensures.hub c.loop-send.invariant.some

pub returns-in_err-send-clause-some : goal.returns-in_err-send-clause-some
returns-in_err-send-clause-some g c =
    sent_more c.args.hub.now c.loop-send.hub c.next_send.new.self c.next_send.ensures.hub c.loop-send.invariant.some

pub loop-send-init : goal.loop-send-init
loop-send-init g c =
    let telling = g.L.Link.telling c.args.link.now in
    record {
      sent = c.requires.sent;
      queue = c.requires.queue;
      all = refl;
      some = record { count = 0; sends = refl };
      running = λ limits outcomes lates is. is;
      unanswered = stays_here c.args.hub.now telling;
      fault = omega arith;
      unfaulted = none_counted telling (g.L.Link.faults c.args.link.now);
      quiet = refl;
      got = refl;
      receive = refl;
      same = refl;
      hold = omega arith;
      pays = λ limits outcomes lates mtu rounds given_up start paid. paid;
      round = none_sent c.args.hub.now (g.L.Link.held c.args.link.now) telling;
      board = refl;
      put = same_link (HasPut c.args.hub.now c.args.hub.now) telling (put_none_by c.args.hub.now);
      ran = runs_here c.args.hub.now c.args.run.now (g.L.Link.traffic c.args.link.now);
    }

pub loop-send-preserved : goal.loop-send-preserved
loop-send-preserved g c =
    let before = c.loop-send in
    let old = before.hub in
    let new = c.next_send.new.self in
    let send = c.in-Some.send in
    let next : Next = record { send = send; hub = new } in
    let is = next_is old new send c.in-Some.ensures.send c.next_send.ensures.hub in
    let telling = g.L.Link.telling in
    let held = g.L.Link.held in
    let call = subst (λ (bytes : List ℕ). IfTelling (telling before.link) (telling c.send.new.self)
    (IsSent bytes (held before.link) (held c.send.new.self))) (c.deref.ensures.value ∙ c.in_ok-write_send.ensures.bytes)
    c.in_ok-send.ensures.sent in
    let spelled = still_spelled c.only_an_offer_makes_more_bodies.ensures.sent old new c.next_send.ensures.hub
    before.invariant.sent before.invariant.queue in
    let leaves : SendLeaves = record {
      fates = c.a_send_leaves_the_fates.ensures.fates;
      lates = c.a_send_leaves_the_fates.ensures.lates;
    } in
    record {
      sent = spelled.0;
      queue = spelled.1;
      all = one_less c.draining_ends.ensures.fewer old next is ∙ before.invariant.all;
      some = sent_more c.args.hub.now old new c.next_send.ensures.hub before.invariant.some;
      running = sent_on c.each_event_leads_to_a_state_of_a_run.ensures.sent leaves
          c.args.hub.now old next (held before.link) (held c.send.new.self) (telling c.args.link.now)
          (telling before.link) (telling c.send.new.self) is before.invariant.running call;
      unanswered = sent_stays c.args.hub.now old next (held before.link) (held c.send.new.self)
          (telling c.args.link.now) (telling before.link) (telling c.send.new.self) is before.invariant.running
          before.invariant.unanswered call;
      fault = (let a = before.invariant.fault in let b = c.send.ensures.faults in omega (arith, a, b));
      unfaulted = still_uncounted _ (telling c.args.link.now) (telling before.link)
          (g.L.Link.faults c.args.link.now) (g.L.Link.faults before.link) (g.L.Link.faults c.send.new.self)
          before.invariant.board before.invariant.unfaulted c.in_ok-send.ensures.unfaulted (λ e. cc);
      pays = pays_sent c.laws_of_rounds.ensures
          c.args.hub.now old next (held c.args.link.now) (held before.link) (held c.send.new.self)
          (telling c.args.link.now) (telling before.link) (telling c.send.new.self) is c.send.ensures.held
          before.invariant.running call before.invariant.pays;
      round = round_sent c.laws_of_ways.ensures
          c.args.hub.now old next (held c.args.link.now) (held before.link) (held c.send.new.self)
          (telling c.args.link.now) (telling before.link) (telling c.send.new.self) is before.invariant.hold
          c.send.ensures.held before.invariant.running call before.invariant.pays before.invariant.round;
      quiet = c.send.ensures.quiets ∙ before.invariant.quiet;
      got = c.send.ensures.gots ∙ before.invariant.got;
      receive = none_received c.send.result _ (g.L.Link.traffic before.link) c.send.ensures.traffic
          ∙ before.invariant.receive;
      same = c.send.ensures.number ∙ before.invariant.same;
      board = sent_board _ _ _ _ _ call ∙ before.invariant.board;
      put = put_more c.args.hub.now old next (held before.link) (held c.send.new.self) (telling c.args.link.now)
          (telling before.link) (telling c.send.new.self) is before.invariant.put call;
      ran = goes_then c.laws_of_runs.ensures before.invariant.ran
          (runs_send old next new before.run c.add_send.new.self (g.L.Link.traffic before.link)
          (g.L.Link.traffic c.send.new.self) is refl c.add_send.ensures
          (c.in_ok-send.ensures.traffic
          ∙ ap (λ (bytes : List ℕ). g.L.Link.traffic before.link ++ Sent bytes ∷ [])
          (c.deref.ensures.value ∙ c.in_ok-write_send.ensures.bytes)));
      hold = (let a = before.invariant.hold in let b = c.send.ensures.held in omega (arith, a, b));
    }

pub returns-clause-all : goal.returns-clause-all
returns-clause-all g c =
    let told = sym c.in_default.is ∙ c.next_send.ensures.send in
    let same = same_hub c.loop-send.hub c.next_send.new.self told c.next_send.ensures.hub in
    same ∙ (sym (all_out c.loop-send.hub (none_is c.loop-send.hub told)) ∙ c.loop-send.invariant.all)

pub returns-in_err-write_send-clause-unanswered : goal.returns-in_err-write_send-clause-unanswered
returns-in_err-write_send-clause-unanswered g c =
    let before = c.loop-send in
    let telling = g.L.Link.telling in
    let next : Next = record { send = c.in-Some.send; hub = c.next_send.new.self } in
    let is = next_is before.hub c.next_send.new.self c.in-Some.send c.in-Some.ensures.send c.next_send.ensures.hub in
    refused_stays c.args.hub.now before.hub next (telling c.args.link.now) (telling before.link) (telling before.link)
    is
    before.invariant.running before.invariant.unanswered refl

pub returns-in_err-send-clause-unanswered : goal.returns-in_err-send-clause-unanswered
returns-in_err-send-clause-unanswered g c =
    let before = c.loop-send in
    let telling = g.L.Link.telling in
    let next : Next = record { send = c.in-Some.send; hub = c.next_send.new.self } in
    let is = next_is before.hub c.next_send.new.self c.in-Some.send c.in-Some.ensures.send c.next_send.ensures.hub in
    refused_stays c.args.hub.now before.hub next (telling c.args.link.now) (telling before.link)
    (telling c.send.new.self) is before.invariant.running before.invariant.unanswered c.in_err-send.ensures.refused

pub returns-clause-running : goal.returns-clause-running
returns-clause-running g c =
    let telling = g.L.Link.telling in
    let told = sym c.in_default.is ∙ c.next_send.ensures.send in
    subst (λ (hub : Hub). GoesOn (telling c.args.link.now) c.args.hub.now (telling c.loop-send.link) hub)
    (sym (same_hub c.loop-send.hub c.next_send.new.self told c.next_send.ensures.hub)) c.loop-send.invariant.running

pub returns-clause-unanswered : goal.returns-clause-unanswered
returns-clause-unanswered g c =
    let telling = g.L.Link.telling in
    let told = sym c.in_default.is ∙ c.next_send.ensures.send in
    subst (λ (hub : Hub). StaysUnanswered (telling c.args.link.now) c.args.hub.now (telling c.loop-send.link) hub)
    (sym (same_hub c.loop-send.hub c.next_send.new.self told c.next_send.ensures.hub)) c.loop-send.invariant.unanswered

pub returns-clause-pays : goal.returns-clause-pays
returns-clause-pays g c =
    let telling = g.L.Link.telling in
    let held = g.L.Link.held in
    let told = sym c.in_default.is ∙ c.next_send.ensures.send in
    subst (λ (hub : Hub). PaysOn (telling c.args.link.now) c.args.hub.now (held c.args.link.now)
    (telling c.loop-send.link) hub (held c.loop-send.link))
    (sym (same_hub c.loop-send.hub c.next_send.new.self told c.next_send.ensures.hub)) c.loop-send.invariant.pays

pub returns-clause-round : goal.returns-clause-round
returns-clause-round g c =
    let telling = g.L.Link.telling in
    let held = g.L.Link.held in
    let told = sym c.in_default.is ∙ c.next_send.ensures.send in
    subst (λ (hub : Hub). RoundFor Sends (telling c.args.link.now) c.args.hub.now (held c.args.link.now)
    (telling c.loop-send.link) hub (held c.loop-send.link))
    (sym (same_hub c.loop-send.hub c.next_send.new.self told c.next_send.ensures.hub)) c.loop-send.invariant.round

pub returns-clause-put : goal.returns-clause-put
returns-clause-put g c =
    let telling = g.L.Link.telling in
    let told = sym c.in_default.is ∙ c.next_send.ensures.send in
    subst (λ (hub : Hub). IfTelling (telling c.args.link.now) (telling c.loop-send.link) (HasPut c.args.hub.now hub))
    (sym (same_hub c.loop-send.hub c.next_send.new.self told c.next_send.ensures.hub)) c.loop-send.invariant.put

pub returns-in_err-write_send-clause-stopped : goal.returns-in_err-write_send-clause-stopped
returns-in_err-write_send-clause-stopped g c =
    let before = c.loop-send in
    let telling = g.L.Link.telling in
    let next : Next = record { send = c.in-Some.send; hub = c.next_send.new.self } in
    let is = next_is before.hub c.next_send.new.self c.in-Some.send c.in-Some.ensures.send c.next_send.ensures.hub in
    on_any_err c.from_residual.result (refused_on c.args.hub.now before.hub next (telling c.args.link.now)
    (telling before.link) (telling before.link) is before.invariant.running refl)

pub returns-in_err-send-clause-stopped : goal.returns-in_err-send-clause-stopped
returns-in_err-send-clause-stopped g c =
    let before = c.loop-send in
    let telling = g.L.Link.telling in
    let next : Next = record { send = c.in-Some.send; hub = c.next_send.new.self } in
    let is = next_is before.hub c.next_send.new.self c.in-Some.send c.in-Some.ensures.send c.next_send.ensures.hub in
    on_any_err c.from_residual-in_err-send.result (refused_on c.args.hub.now before.hub next (telling c.args.link.now)
    (telling before.link) (telling c.send.new.self) is before.invariant.running c.in_err-send.ensures.refused)

pub returns-clause-unreceived : goal.returns-clause-unreceived
returns-clause-unreceived g c =
    let is = c.loop-send.invariant in
    record {
      faults = is.fault;
      quiets = is.quiet;
      gots = is.got;
      receives = is.receive;
      number = is.same;
      held = is.hold;
      board = is.board;
    }

pub returns-in_err-write_send-clause-unreceived : goal.returns-in_err-write_send-clause-unreceived
returns-in_err-write_send-clause-unreceived g c =
    let is = c.loop-send.invariant in
    record {
      faults = is.fault;
      quiets = is.quiet;
      gots = is.got;
      receives = is.receive;
      number = is.same;
      held = is.hold;
      board = is.board;
    }

pub returns-clause-ran : goal.returns-clause-ran
returns-clause-ran g c =
    let traffic = g.L.Link.traffic in
    let told = sym c.in_default.is ∙ c.next_send.ensures.send in
    subst (λ (hub : Hub). RunsTo ends.GoesOn [] c.args.hub.now hub c.args.run.now c.loop-send.run
    (traffic c.args.link.now) (traffic c.loop-send.link))
    (sym (same_hub c.loop-send.hub c.next_send.new.self told c.next_send.ensures.hub)) c.loop-send.invariant.ran

-- the last send was taken from the hub, and did not pass
pub returns-in_err-write_send-clause-cut : goal.returns-in_err-write_send-clause-cut
returns-in_err-write_send-clause-cut g c =
    let before = c.loop-send in
    let traffic = g.L.Link.traffic in
    let next : Next = record { send = c.in-Some.send; hub = c.next_send.new.self } in
    let is = next_is before.hub c.next_send.new.self c.in-Some.send c.in-Some.ensures.send c.next_send.ensures.hub in
    on_each_err c.from_residual.result (λ fault. goes_then c.laws_of_runs.ensures before.invariant.ran
    (runs_send before.hub next c.next_send.new.self before.run c.add_send.new.self
    (traffic before.link) (traffic before.link) is refl c.add_send.ensures
    (lacks_last fault (traffic before.link) (bytes_to_send next.hub next.send) refl)))

pub returns-in_err-send-clause-cut : goal.returns-in_err-send-clause-cut
returns-in_err-send-clause-cut g c =
    let before = c.loop-send in
    let traffic = g.L.Link.traffic in
    let next : Next = record { send = c.in-Some.send; hub = c.next_send.new.self } in
    let is = next_is before.hub c.next_send.new.self c.in-Some.send c.in-Some.ensures.send c.next_send.ensures.hub in
    let bytes = bytes_to_send next.hub next.send in
    on_each_err c.from_residual-in_err-send.result (λ fault. goes_then c.laws_of_runs.ensures before.invariant.ran
    (runs_send before.hub next c.next_send.new.self before.run c.add_send.new.self
    (traffic before.link) (traffic c.send.new.self) is refl c.add_send.ensures
    (lacks_last fault (traffic before.link) bytes c.in_err-send.ensures.traffic)))
