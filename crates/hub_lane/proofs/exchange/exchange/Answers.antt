use Rattle.std.proofs.Common.{◌∙◌, [], ap, subst, refl, sym, arith}
use Rattle.world_model.specs.Hub.{Hub, after_handing_out}
use Rattle.lane_record.specs.Lates.{put_lates}
use Rattle.lane_record.specs.Offers.{put_all}
use Rattle.hub_lane.specs.Exchange.{Hears}
use Rattle.hub_lane.specs.Hearing.{give_ups_of, gots_of, hub_after, quiets_of, receives_of}
use Rattle.hub_lane.specs.Sends.{HasSent}
use Rattle.hub_lane.proofs.Carrying.{carried}
use Rattle.hub_lane.proofs.Links.{keeps_then, nothing_keeps, on_any_err, on_that_err}
use Rattle.hub_lane.proofs.Linked.{stopped_after}
use Rattle.hub_lane.proofs.Ready.{exchanged, exchanged_unanswered, ready_sent, same_sent}
use Rattle.hub_lane.proofs.Rounds.{exchanged_pays}
use Rattle.hub_lane.proofs.InRounds.{round_exchanged}
use Rattle.hub_lane.specs.Run as ends
use Rattle.hub_lane.specs.Run.{RunsTo, ending_by}
use Rattle.links.specs.declared.link.LinkFault.{LinkFault}
use Rattle.hub_lane.proofs.Runs.{goes_then, runs_received, runs_unheard}
use Rattle.hub_lane.proofs.exchange.exchange.Goals as goal

pub receive-requires-clause-drained : goal.receive-requires-clause-drained
receive-requires-clause-drained g c =
    (ready_sent (record {
      fates = c.a_send_leaves_the_fates.ensures.fates;
      lates = c.a_send_leaves_the_fates.ensures.lates;
    }) c.only_an_offer_makes_more_bodies.ensures.sent _ c.args.hub.now
    c.send_all.new.hub c.send_all.ensures.some c.requires.ready).drained

pub receive-requires-clause-waits : goal.receive-requires-clause-waits
receive-requires-clause-waits g c =
    (same_sent c.args.hub.now c.send_all.new.hub c.send_all.ensures.some).waits ∙ c.requires.waits

pub receive-requires-clause-first : goal.receive-requires-clause-first
receive-requires-clause-first g c =
    c.requires.first ∙ sym (same_sent c.args.hub.now c.send_all.new.hub c.send_all.ensures.some).first

pub receive-requires-clause-window : goal.receive-requires-clause-window
receive-requires-clause-window g c =
    (ready_sent (record {
      fates = c.a_send_leaves_the_fates.ensures.fates;
      lates = c.a_send_leaves_the_fates.ensures.lates;
    }) c.only_an_offer_makes_more_bodies.ensures.sent _ c.args.hub.now
    c.send_all.new.hub c.send_all.ensures.some c.requires.ready).window

pub receive-requires-clause-few : goal.receive-requires-clause-few
receive-requires-clause-few g c =
    let is = (ready_sent (record {
      fates = c.a_send_leaves_the_fates.ensures.fates;
      lates = c.a_send_leaves_the_fates.ensures.lates;
    }) c.only_an_offer_makes_more_bodies.ensures.sent _
    c.args.hub.now c.send_all.new.hub c.send_all.ensures.some c.requires.ready).bodies.few in
    let few = c.requires.few in
    omega (arith, is, few)

pub returns-clause-running : goal.returns-clause-running
returns-clause-running g c =
    exchanged c.each_event_leads_to_a_state_of_a_run.ensures.handed_out c.args.hub.now c.send_all.new.hub
    c.receive.new.hub c.settle.new.hub c.args.outcomes.now.items c.settle.new.outcomes.items c.args.outcomes.now.lates
    c.settle.new.outcomes.lates (g.L.Link.telling c.args.link.now) (g.L.Link.telling c.send_all.new.link)
    (g.L.Link.telling c.receive.new.link)
    c.settle.ensures.hub c.settle.ensures.outcomes c.settle.ensures.lates c.in_ok-send_all.ensures.running
    c.receive.ensures.running

pub returns-clause-pays : goal.returns-clause-pays
returns-clause-pays g c = λ limits mtu start paid.
    exchanged_pays c.in_ok-pumped.pumped c.args.hub.now c.send_all.new.hub c.receive.new.hub c.settle.new.hub
    c.args.outcomes.now.items c.args.outcomes.now.lates (g.L.Link.telling c.args.link.now) (g.L.Link.telling
    c.send_all.new.link)
    (g.L.Link.telling c.receive.new.link) (g.L.Link.held c.args.link.now) (g.L.Link.held c.send_all.new.link)
    (g.L.Link.held c.receive.new.link) c.args.give_ups.now c.settle.new.give_ups
    (same_sent c.args.hub.now c.send_all.new.hub c.send_all.ensures.some).rounds c.settle.ensures.hub
    c.settle.ensures.give_ups c.in_ok-send_all.ensures.running c.in_ok-send_all.ensures.pays
    c.in_ok-pumped.ensures.told.pays limits mtu start paid

pub returns-clause-told : goal.returns-clause-told
returns-clause-told g c = record {
  received = c.in_ok-pumped.ensures.told.received;
  carries = carried c.in_ok-pumped.pumped c.receive.new.buffer.items c.args.hub.now c.send_all.new.hub
      (g.L.Link.telling c.args.link.now) (g.L.Link.telling c.send_all.new.link) (g.L.Link.telling c.receive.new.link)
      c.in_ok-send_all.ensures.all c.in_ok-send_all.ensures.put c.in_ok-pumped.ensures.told.brings;
  unanswered = exchanged_unanswered c.args.hub.now c.send_all.new.hub c.receive.new.hub c.settle.new.hub
      (g.L.Link.telling c.args.link.now) (g.L.Link.telling c.send_all.new.link) (g.L.Link.telling c.receive.new.link)
      c.settle.ensures.hub c.in_ok-send_all.ensures.running c.send_all.ensures.unanswered
      c.in_ok-pumped.ensures.told.unanswered;
  round = round_exchanged c.in_ok-pumped.pumped c.args.hub.now c.send_all.new.hub c.receive.new.hub c.settle.new.hub
      (g.L.Link.telling c.args.link.now) (g.L.Link.telling c.send_all.new.link) (g.L.Link.telling c.receive.new.link)
      (g.L.Link.held c.args.link.now) (g.L.Link.held c.send_all.new.link) (g.L.Link.held c.receive.new.link)
      c.settle.ensures.hub c.send_all.ensures.unreceived.held c.receive.ensures.counts.held
      c.in_ok-send_all.ensures.running
      c.in_ok-send_all.ensures.pays c.in_ok-send_all.ensures.round c.in_ok-pumped.ensures.told.round;
}

pub returns-in_err-send_all-clause-counts : goal.returns-in_err-send_all-clause-counts
returns-in_err-send_all-clause-counts g c =
    nothing_keeps g.L.Link c.args.link.now c.send_all.new.link c.send_all.ensures.unreceived

pub returns-in_err-pumped-clause-counts : goal.returns-in_err-pumped-clause-counts
returns-in_err-pumped-clause-counts g c =
    keeps_then g.L.Link c.args.link.now c.send_all.new.link c.receive.new.link c.send_all.ensures.unreceived
    c.receive.ensures.counts

pub returns-clause-counts : goal.returns-clause-counts
returns-clause-counts g c =
    keeps_then g.L.Link c.args.link.now c.send_all.new.link c.receive.new.link c.send_all.ensures.unreceived
    c.receive.ensures.counts

pub returns-clause-settled : goal.returns-clause-settled
returns-clause-settled g c =
    let pumped = c.in_ok-pumped.pumped in
    let heard = subst (λ (h : Hub). Hears pumped c.receive.new.buffer.items h c.receive.new.hub)
    c.in_ok-send_all.ensures.all c.in_ok-pumped.ensures.heard in
    record {
      event = heard.event;
      hub = c.settle.ensures.hub ∙ ap after_handing_out heard.hub;
      outcomes = c.settle.ensures.outcomes ∙ ap (λ (h : Hub). put_all h.fates c.args.outcomes.now.items) heard.hub;
      lates = c.settle.ensures.lates ∙ ap (λ (h : Hub). put_lates h.lates c.args.outcomes.now.lates) heard.hub;
      give_ups = c.settle.ensures.give_ups ∙ ap (λ (h : Hub). give_ups_of pumped h c.args.give_ups.now) heard.hub;
    }

pub returns-clause-received : goal.returns-clause-received
returns-clause-received g c =
    let pumped = c.in_ok-pumped.pumped in
    let sent = c.send_all.ensures.unreceived in
    let is = c.in_ok-pumped.ensures.received in
    record {
      counts = record {
        quiets = is.counts.quiets ∙ ap (quiets_of pumped) sent.quiets;
        gots = is.counts.gots ∙ ap (gots_of pumped) sent.gots;
      };
      receives = is.receives ∙ ap (receives_of pumped c.receive.new.buffer.items) sent.receives;
    }

pub returns-in_err-send_all-clause-unsettled : goal.returns-in_err-send_all-clause-unsettled
returns-in_err-send_all-clause-unsettled g c =
    on_any_err c.from_residual.result
    (record { sent = c.send_all.ensures.some; outcomes = refl; lates = refl; give_ups = refl })

pub returns-in_err-send_all-clause-stopped : goal.returns-in_err-send_all-clause-stopped
returns-in_err-send_all-clause-stopped g c =
    on_any_err c.from_residual.result c.in_err-send_all.ensures.stopped

pub returns-in_err-send_all-clause-failed : goal.returns-in_err-send_all-clause-failed
returns-in_err-send_all-clause-failed g c =
    λ failed. record { receives = c.send_all.ensures.unreceived; unanswered = c.send_all.ensures.unanswered }

pub returns-in_err-pumped-clause-unsettled : goal.returns-in_err-pumped-clause-unsettled
returns-in_err-pumped-clause-unsettled g c =
    on_any_err c.from_residual-in_err-pumped.result (record {
      sent = subst (HasSent c.args.hub.now) (sym c.in_err-pumped.ensures.unheard) c.send_all.ensures.some;
      outcomes = refl;
      lates = refl;
      give_ups = refl;
    })

pub returns-clause-ran : goal.returns-clause-ran
returns-clause-ran g c =
    let traffic = g.L.Link.traffic in
    let mid = c.send_all.new.hub in
    let pumped = c.in_ok-pumped.pumped in
    let bytes = c.receive.new.buffer.items in
    subst (λ (h : Hub). RunsTo ends.GoesOn [] c.args.hub.now (hub_after pumped bytes h) c.args.run.now
    c.add_received.new.self (traffic c.args.link.now) (traffic c.receive.new.link)) c.in_ok-send_all.ensures.all
    (goes_then c.laws_of_runs.ensures c.in_ok-send_all.ensures.ran
    (runs_received pumped bytes mid c.receive.new.hub c.send_all.new.run c.add_received.new.self
    (traffic c.send_all.new.link) (traffic c.receive.new.link) c.in_ok-send_all.ensures.none
    ((same_sent c.args.hub.now mid c.send_all.ensures.some).waits ∙ c.requires.waits)
    c.in_ok-pumped.ensures.heard c.add_received.ensures c.in_ok-pumped.ensures.passed))

pub returns-in_err-pumped-clause-cut : goal.returns-in_err-pumped-clause-cut
returns-in_err-pumped-clause-cut g c =
    let traffic = g.L.Link.traffic in
    let fault = c.in_err-pumped.field-0.0 in
    on_that_err (λ (e : LinkFault). RunsTo (ending_by e) [] c.args.hub.now c.receive.new.hub c.args.run.now
    c.send_all.new.run (traffic c.args.link.now) (traffic c.receive.new.link))
    c.from_residual-in_err-pumped.result fault c.from_residual-in_err-pumped.ensures.1
    (goes_then c.laws_of_runs.ensures c.in_ok-send_all.ensures.ran
    (runs_unheard fault c.send_all.new.hub c.receive.new.hub c.send_all.new.run (traffic c.send_all.new.link)
    (traffic c.receive.new.link) c.in_err-pumped.ensures.unheard c.in_err-pumped.ensures.lost))

pub returns-in_err-send_all-clause-cut : goal.returns-in_err-send_all-clause-cut
returns-in_err-send_all-clause-cut g c =
    let traffic = g.L.Link.traffic in
    on_that_err (λ (e : LinkFault). RunsTo (ending_by e) [] c.args.hub.now c.send_all.new.hub c.args.run.now
    c.send_all.new.run (traffic c.args.link.now) (traffic c.send_all.new.link)) c.from_residual.result
    c.in_err-send_all.field-0.0 c.from_residual.ensures.1 c.in_err-send_all.ensures.cut

pub returns-in_err-pumped-clause-stopped : goal.returns-in_err-pumped-clause-stopped
returns-in_err-pumped-clause-stopped g c =
    let telling = g.L.Link.telling in
    on_any_err c.from_residual-in_err-pumped.result
    (stopped_after (telling c.args.link.now) (telling c.send_all.new.link) (telling c.receive.new.link) c.args.hub.now
    c.send_all.new.hub c.receive.new.hub c.in_ok-send_all.ensures.running c.receive.ensures.running)
