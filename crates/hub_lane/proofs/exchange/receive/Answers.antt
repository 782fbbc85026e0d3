use Rattle.std.proofs.Common.{◌∙◌, ℕ, List, Ok, inr, sym, subst, ap}
use Rattle.world_model.specs.Hub.{Hub, take_message}
use Rattle.links.specs.declared.link.Received.{Received}
use Rattle.links.specs.Telling.{IfTelling, Receives}
use Rattle.world_model.specs.Messages.{to_hub}
use Rattle.hub_lane.specs.Hearing.{IsHeardAs}
use Rattle.hub_lane.specs.declared.answers.Pumped.TheVariants.{Quiet}
use Rattle.hub_lane.specs.Rounds.{PaysFor, Pumps, RoundFor}
use Rattle.hub_lane.specs.Standing.{GoesOn, StaysUnanswered}
use Rattle.hub_lane.proofs.Carrying.{got_brings, quiet_brings}
use Rattle.hub_lane.proofs.Linked.{fault_on, got_on, got_stays, quiet_on, quiet_stays, unheard_on, was_received}
use Rattle.links.specs.declared.link.LinkFault.{LinkFault}
use Rattle.links.specs.declared.link.LinkFault.TheVariants.{NoMemory}
use Rattle.links.specs.declared.link.Received.TheVariants.{Got}
use Rattle.hub_lane.specs.Run.{IsUnheard}
use Rattle.hub_lane.proofs.Links.{got_once, on_each_err, on_that_err, quiet_once, received_keeps, was_quiet}
use Rattle.hub_lane.proofs.Runs.{got_passed, got_traffic, quiet_traffic, unheard_same}
use Rattle.hub_lane.proofs.Rounds.{got_for, quiet_for}
use Rattle.hub_lane.proofs.InRounds.{round_got, round_quiet}
use Rattle.hub_lane.proofs.exchange.receive.Goals as goal

pub returns-in_err-receive-clause-running : goal.returns-in_err-receive-clause-running
returns-in_err-receive-clause-running g c =
    fault_on c.each_event_leads_to_a_state_of_a_run.ensures.heard c.a_link_forgets_nothing.ensures.air
    c.a_link_forgets_nothing.ensures.board c.args.hub.now c.in_err-receive.field-0.0 c.receive.new.into.items
    (g.L.Link.held c.args.link.now) (g.L.Link.held c.receive.new.self) (g.L.Link.telling c.args.link.now)
    (g.L.Link.telling c.receive.new.self) c.requires.none c.requires.drained c.in_err-receive.ensures.received

pub returns-in_err-hear-in-Got-clause-running : goal.returns-in_err-hear-in-Got-clause-running
returns-in_err-hear-in-Got-clause-running g c =
    let telling = g.L.Link.telling in
    let held = g.L.Link.held in
    let bytes = c.receive.new.into.items in
    let got = subst (λ (r : Received). IfTelling (telling c.args.link.now) (telling c.receive.new.self)
    (Receives (Ok r) bytes (held c.args.link.now) (held c.receive.new.self))) c.in-Got.is
    c.in_ok-receive.ensures.received in
    subst (λ (h : Hub). GoesOn (telling c.args.link.now) c.args.hub.now (telling c.receive.new.self) h)
    (sym c.in_err-hear-in-Got.ensures.unchanged)
    (unheard_on c.each_event_leads_to_a_state_of_a_run.ensures.heard c.a_link_forgets_nothing.ensures.air
    c.a_link_forgets_nothing.ensures.board c.args.hub.now bytes
    (held c.args.link.now) (held c.receive.new.self) (telling c.args.link.now)
    (telling c.receive.new.self) c.requires.none c.requires.drained got)

pub returns-in_ok-hear-in-Got-clause-running : goal.returns-in_ok-hear-in-Got-clause-running
returns-in_ok-hear-in-Got-clause-running g c =
    let telling = g.L.Link.telling in
    let held = g.L.Link.held in
    let bytes = c.receive.new.into.items in
    let got = subst (λ (r : Received). IfTelling (telling c.args.link.now) (telling c.receive.new.self)
    (Receives (Ok r) bytes (held c.args.link.now) (held c.receive.new.self))) c.in-Got.is
    c.in_ok-receive.ensures.received in
    subst (λ (h : Hub). GoesOn (telling c.args.link.now) c.args.hub.now (telling c.receive.new.self) h)
    (sym (c.in_ok-hear-in-Got.ensures.hub
    ∙ ap (λ (heard : List ℕ). take_message c.args.hub.now (to_hub heard)) c.deref.ensures.value))
    (got_on c.each_event_leads_to_a_state_of_a_run.ensures.heard c.a_link_forgets_nothing.ensures.air
    c.a_link_forgets_nothing.ensures.board c.each_event_leads_to_a_state_of_a_run.ensures.handed c.args.hub.now bytes
    (held c.args.link.now) (held c.receive.new.self) (telling c.args.link.now)
    (telling c.receive.new.self) c.requires.none c.requires.drained got)

pub returns-in-Quiet-clause-running : goal.returns-in-Quiet-clause-running
returns-in-Quiet-clause-running g c =
    let telling = g.L.Link.telling in
    let held = g.L.Link.held in
    let bytes = c.receive.new.into.items in
    let quiet = subst (λ (r : Received). IfTelling (telling c.args.link.now) (telling c.receive.new.self)
    (Receives (Ok r) bytes (held c.args.link.now) (held c.receive.new.self))) c.in-Quiet.is
    c.in_ok-receive.ensures.received in
    subst (λ (h : Hub). GoesOn (telling c.args.link.now) c.args.hub.now (telling c.receive.new.self) h)
    (sym c.on_quiet.ensures.hub)
    (quiet_on c.each_event_leads_to_a_state_of_a_run.ensures.heard c.a_link_forgets_nothing.ensures.air
    c.a_link_forgets_nothing.ensures.board c.each_event_leads_to_a_state_of_a_run.ensures.quiet c.args.hub.now
    (held c.args.link.now) (held c.receive.new.self) (telling c.args.link.now)
    (telling c.receive.new.self) c.requires.none c.requires.drained c.requires.waits quiet)

pub returns-in_ok-hear-in-Got-clause-told : goal.returns-in_ok-hear-in-Got-clause-told
returns-in_ok-hear-in-Got-clause-told g c =
    let telling = g.L.Link.telling in
    let held = g.L.Link.held in
    let bytes = c.receive.new.into.items in
    let pumped = c.in_ok-hear-in-Got.field-0 in
    let got = subst (λ (r : Received). IfTelling (telling c.args.link.now) (telling c.receive.new.self)
    (Receives (Ok r) bytes (held c.args.link.now) (held c.receive.new.self))) c.in-Got.is
    c.in_ok-receive.ensures.received in
    let heard = subst (λ (heard : List ℕ). IsHeardAs c.args.hub.now (to_hub heard) pumped)
    c.deref.ensures.value c.in_ok-hear-in-Got.ensures.heard in
    let hub = sym (c.in_ok-hear-in-Got.ensures.hub
    ∙ ap (λ (heard : List ℕ). take_message c.args.hub.now (to_hub heard)) c.deref.ensures.value) in
    record {
      received = was_received bytes pumped c.args.hub.now (held c.args.link.now) (held c.receive.new.self)
          (telling c.args.link.now) (telling c.receive.new.self)
          heard got;
      brings = got_brings bytes c.args.hub.now pumped (held c.args.link.now) (held c.receive.new.self)
          (telling c.args.link.now) (telling c.receive.new.self)
          heard got;
      unanswered = subst (λ (h : Hub). StaysUnanswered (telling c.args.link.now) c.args.hub.now
          (telling c.receive.new.self) h)
          hub
          (got_stays c.each_event_leads_to_a_state_of_a_run.ensures.heard c.a_link_forgets_nothing.ensures.air
          c.a_link_forgets_nothing.ensures.board c.args.hub.now bytes
          (held c.args.link.now) (held c.receive.new.self) (telling c.args.link.now)
          (telling c.receive.new.self) c.requires.none c.requires.drained got);
      pays = subst (λ (h : Hub). PaysFor pumped (telling c.args.link.now) c.args.hub.now (held c.args.link.now)
          (telling c.receive.new.self) h (held c.receive.new.self))
          hub
          (got_for c.laws_of_rounds.ensures c.a_link_forgets_nothing.ensures.board pumped c.args.hub.now bytes
          (held c.args.link.now) (held c.receive.new.self) (telling c.args.link.now) (telling c.receive.new.self)
          c.receive.ensures.held heard got);
      round = subst (λ (h : Hub). RoundFor (Pumps pumped) (telling c.args.link.now) c.args.hub.now
          (held c.args.link.now)
          (telling c.receive.new.self) h (held c.receive.new.self))
          hub
          (round_got c.laws_of_ways.ensures pumped c.args.hub.now bytes
          (held c.args.link.now) (held c.receive.new.self) (telling c.args.link.now) (telling c.receive.new.self)
          heard got);
    }

pub returns-in-Quiet-clause-told : goal.returns-in-Quiet-clause-told
returns-in-Quiet-clause-told g c =
    let telling = g.L.Link.telling in
    let held = g.L.Link.held in
    let bytes = c.receive.new.into.items in
    let quiet = subst (λ (r : Received). IfTelling (telling c.args.link.now) (telling c.receive.new.self)
    (Receives (Ok r) bytes (held c.args.link.now) (held c.receive.new.self))) c.in-Quiet.is
    c.in_ok-receive.ensures.received in
    record {
      received = was_quiet bytes (held c.args.link.now) (held c.receive.new.self) (telling c.args.link.now)
          (telling c.receive.new.self) quiet;
      brings = quiet_brings bytes (held c.args.link.now) (held c.receive.new.self) (telling c.args.link.now)
          (telling c.receive.new.self) quiet;
      unanswered = subst (λ (h : Hub). StaysUnanswered (telling c.args.link.now) c.args.hub.now
          (telling c.receive.new.self) h)
          (sym c.on_quiet.ensures.hub)
          (quiet_stays c.each_event_leads_to_a_state_of_a_run.ensures.heard c.a_link_forgets_nothing.ensures.air
          c.a_link_forgets_nothing.ensures.board c.args.hub.now (held c.args.link.now) (held c.receive.new.self)
          (telling c.args.link.now) (telling c.receive.new.self) quiet);
      pays = subst (λ (h : Hub). PaysFor Quiet (telling c.args.link.now) c.args.hub.now (held c.args.link.now)
          (telling c.receive.new.self) h (held c.receive.new.self)) (sym c.on_quiet.ensures.hub)
          (quiet_for c.laws_of_rounds.ensures c.a_link_forgets_nothing.ensures.board c.args.hub.now
          (held c.args.link.now) (held c.receive.new.self) (telling c.args.link.now) (telling c.receive.new.self)
          c.receive.ensures.held c.requires.none c.requires.waits quiet);
      round = subst (λ (h : Hub). RoundFor (Pumps Quiet) (telling c.args.link.now) c.args.hub.now (held c.args.link.now)
          (telling c.receive.new.self) h (held c.receive.new.self)) (sym c.on_quiet.ensures.hub)
          (round_quiet c.laws_of_ways.ensures c.args.hub.now (held c.args.link.now) (held c.receive.new.self)
          (telling c.args.link.now) (telling c.receive.new.self) c.requires.none quiet);
    }

pub returns-in_err-receive-clause-counts : goal.returns-in_err-receive-clause-counts
returns-in_err-receive-clause-counts g c = received_keeps g.L.Link c.a_link_forgets_nothing.ensures.board
    c.receive.result
    c.receive.new.into.items c.args.link.now c.receive.new.self c.receive.ensures.faults c.receive.ensures.quiets_rise
    c.receive.ensures.gots_rise c.receive.ensures.traffic c.receive.ensures.number c.receive.ensures.held c.receive.ensures.received

pub returns-in_err-hear-in-Got-clause-counts : goal.returns-in_err-hear-in-Got-clause-counts
returns-in_err-hear-in-Got-clause-counts g c = received_keeps g.L.Link c.a_link_forgets_nothing.ensures.board
    c.receive.result
    c.receive.new.into.items c.args.link.now c.receive.new.self c.receive.ensures.faults c.receive.ensures.quiets_rise
    c.receive.ensures.gots_rise c.receive.ensures.traffic c.receive.ensures.number c.receive.ensures.held c.receive.ensures.received

pub returns-in_ok-hear-in-Got-clause-counts : goal.returns-in_ok-hear-in-Got-clause-counts
returns-in_ok-hear-in-Got-clause-counts g c = received_keeps g.L.Link c.a_link_forgets_nothing.ensures.board
    c.receive.result
    c.receive.new.into.items c.args.link.now c.receive.new.self c.receive.ensures.faults c.receive.ensures.quiets_rise
    c.receive.ensures.gots_rise c.receive.ensures.traffic c.receive.ensures.number c.receive.ensures.held c.receive.ensures.received

pub returns-in-Quiet-clause-counts : goal.returns-in-Quiet-clause-counts
returns-in-Quiet-clause-counts g c = received_keeps g.L.Link c.a_link_forgets_nothing.ensures.board c.receive.result
    c.receive.new.into.items c.args.link.now c.receive.new.self c.receive.ensures.faults c.receive.ensures.quiets_rise
    c.receive.ensures.gots_rise c.receive.ensures.traffic c.receive.ensures.number c.receive.ensures.held c.receive.ensures.received

pub returns-in_ok-hear-in-Got-clause-received : goal.returns-in_ok-hear-in-Got-clause-received
returns-in_ok-hear-in-Got-clause-received g c =
    let pumped = c.in_ok-hear-in-Got.field-0 in
    let heard = subst (λ (heard : List ℕ). IsHeardAs c.args.hub.now (to_hub heard) pumped)
    c.deref.ensures.value c.in_ok-hear-in-Got.ensures.heard in
    let came = c.in_ok-receive.ensures in
    got_once g.L.Link pumped c.receive.new.into.items c.args.hub.now c.args.link.now c.receive.new.self
    c.in_ok-receive.field-0 c.in-Got.is heard (came.quiets, came.gots, came.traffic)

pub returns-in-Quiet-clause-received : goal.returns-in-Quiet-clause-received
returns-in-Quiet-clause-received g c =
    let came = c.in_ok-receive.ensures in
    quiet_once g.L.Link c.receive.new.into.items c.args.link.now c.receive.new.self c.in_ok-receive.field-0
    c.in-Quiet.is (came.quiets, came.gots, came.traffic)

pub returns-in_ok-hear-in-Got-clause-passed : goal.returns-in_ok-hear-in-Got-clause-passed
returns-in_ok-hear-in-Got-clause-passed g c =
    let pumped = c.in_ok-hear-in-Got.field-0 in
    let heard = subst (λ (heard : List ℕ). IsHeardAs c.args.hub.now (to_hub heard) pumped)
    c.deref.ensures.value c.in_ok-hear-in-Got.ensures.heard in
    got_passed pumped c.receive.new.into.items c.args.hub.now (g.L.Link.traffic c.args.link.now) heard
    (got_traffic c.in_ok-receive.field-0 c.receive.new.into.items (g.L.Link.traffic c.args.link.now) c.in-Got.is
    c.in_ok-receive.ensures.traffic)

pub returns-in-Quiet-clause-passed : goal.returns-in-Quiet-clause-passed
returns-in-Quiet-clause-passed g c =
    quiet_traffic c.in_ok-receive.field-0 c.receive.new.into.items (g.L.Link.traffic c.args.link.now) c.in-Quiet.is
    c.in_ok-receive.ensures.traffic

pub returns-in_err-receive-clause-lost : goal.returns-in_err-receive-clause-lost
returns-in_err-receive-clause-lost g c = on_each_err _ (λ fault.
    unheard_same fault (g.L.Link.traffic c.args.link.now) (g.L.Link.traffic c.receive.new.self)
    c.in_err-receive.ensures.traffic)

pub returns-in_err-hear-in-Got-clause-lost : goal.returns-in_err-hear-in-Got-clause-lost
returns-in_err-hear-in-Got-clause-lost g c =
    let traffic = g.L.Link.traffic in
    on_that_err (λ (fault : LinkFault). IsUnheard fault (traffic c.args.link.now) (traffic c.receive.new.self))
    c.from_residual-in_err-hear-in-Got.result NoMemory c.from_residual-in_err-hear-in-Got.ensures.1 (inr (
      c.receive.new.into.items,
      got_traffic c.in_ok-receive.field-0 c.receive.new.into.items (traffic c.args.link.now) c.in-Got.is
          c.in_ok-receive.ensures.traffic,
    ))
