use denote.Param.Send.{sendable}
use Rattle.std.proofs.Common.{[], ℕ, List, Vec, Global, length, subst, sym, arith}
use Rattle.std.proofs.lemmas.Grind.{common_steps}
use Rattle.std.specs.List.{AllByRecursion}
use Rattle.ipb_outside.specs.Pairs.{GivesBack, pair_shown}
use Rattle.hub_multiplexer.proofs.Shares.{lane_send}
use Rattle.hub_multiplexer.specs.Seats.{SeatState}
use Rattle.hub_session.specs.declared.served.Served.{Served}
use Rattle.hub_session.specs.Serving.{IsLaneBelow}
use Rattle.session_serve.specs.Hubs.{AreServedAt, ServesAll, served_of, pairs_of}
use Rattle.session_serve.specs.Plans.{ArePlannedAt}
use Rattle.session_serve.specs.Seats.{AreOfClientsFrom, IsOpen, with_seats}
use Rattle.session_serve.specs.Serving.{AreBackFrom, HadMemory}
use Rattle.session_serve.proofs.AtHub.{heads_of, heads_returned, opens_all, served_at}
use Rattle.session_serve.proofs.EachDone.{both_then, each_served}
use Rattle.session_serve.proofs.LanePlans.{planned_at, planned_none}
use Rattle.session_serve.proofs.Seating.{clients_front}
use Rattle.session_serve.proofs.Standing.{gives_none}
use Rattle.session_serve.proofs.hub.serve_at_hub.Goals as goal

pub serve_under_seats-served-requires-clause-opens : goal.serve_under_seats-served-requires-clause-opens
serve_under_seats-served-requires-clause-opens g c κs within =
    subst (AllByRecursion IsOpen) (sym c.in-Ok.ensures.master)
    (opens_all g.L.Link.telling c.args.lanes.items c.requires.unused)

pub serve_under_seats-served-requires-clause-lanes : goal.serve_under_seats-served-requires-clause-lanes
serve_under_seats-served-requires-clause-lanes g c κs within =
    subst (λ (n : ℕ). AllByRecursion (IsLaneBelow n) c.args.states.now) (sym c.in-Ok.ensures.boards) c.requires.lanes

pub returns-in-Ok-clause-heads : goal.returns-in-Ok-clause-heads
returns-in-Ok-clause-heads g c =
    let b = c.serve_under_seats-served.ensures.all_back in
    let back = b.1 in
    heads_of c.a_lane_comes_back_with_its_record.ensures g.L.Link.telling c.args.lanes.items c.finish.result.items b.0
    c.in-Ok.master c.serve_under_seats-served.new.master
    c.in-Ok.ensures.master back c.finish.ensures

pub returns-in-Ok-clause-served : goal.returns-in-Ok-clause-served
returns-in-Ok-clause-served g c =
    let tells = g.L.Link.telling in
    let olds = c.args.lanes.items in
    let news = c.finish.result.items in
    let m = c.in-Ok.master in
    let served = c.serve_under_seats-served in
    both_then (λ (lines : Vec Served Global). (seats : List SeatState) × ServesAll g.D.Door g.D.Incoming.Source
    g.D.Outgoing.Sink c.args.states.now c.in-Ok.hub.turns seats (with_seats m (length seats)) served.new.master
    c.args.door.now served.new.door lines.items) (λ (lines : Vec Served Global). AllByRecursion HadMemory lines.items)
    (λ (lines : Vec Served Global). GivesBack g.D.Door g.D.Incoming.Source g.D.Outgoing.Sink c.args.door.now
    served.new.door (λ came back. AreServedAt tells c.args.states.now olds news came back lines.items)) served.result
    (λ lines all memory. (let b = all.1.all_back in (
      b.came,
      pairs_of b.dones,
      b.came',
      b.went,
      served_at c.a_lane_comes_back_with_its_record.ensures
          c.each_body_was_decided_on_a_record_that_the_seat_saw.ensures.answered
          c.connections_of_a_hub_plan_what_they_submit.ensures c.a_connection_plans_its_first_bodies_first.ensures
          c.connections_of_a_hub_keep_the_limits.ensures tells olds news m c.in-Ok.ensures.master c.requires.unused
          all.1 c.finish.ensures memory,
    ))) served.ensures.served served.ensures.had_memory

pub returns-in-Ok-clause-pairs : goal.returns-in-Ok-clause-pairs
returns-in-Ok-clause-pairs g c =
    let shows = pair_shown g.D.Incoming.Source g.D.Outgoing.Sink in
    let b = c.serve_under_seats-served.ensures.all_back.1 in (
      b.came,
      pairs_of b.dones,
      b.came',
      b.went,
      record {
        served = served_of b.dones;
        each = each_served shows c.args.states.now 1 b.befores b.came b.dones b.each (clients_front 1 b.befores b.others
            (subst (AreOfClientsFrom 1) (sym b.all) b.clients)).0;
      },
    )

pub returns-in-Err-clause-heads : goal.returns-in-Err-clause-heads
returns-in-Err-clause-heads g c =
    heads_returned c.a_record_tells_its_lane.ensures g.L.Link.telling c.args.lanes.items c.in-Err.returned.lanes.items
    c.in-Err.ensures.returned

pub returns-in-Err-clause-pairs : goal.returns-in-Err-clause-pairs
returns-in-Err-clause-pairs g c =
    gives_none g.D.Door g.D.Incoming.Source g.D.Outgoing.Sink c.args.door.now (AreBackFrom c.args.states.now)
    (record { served = []; each = tt })

pub returns-in-Ok-clause-planned : goal.returns-in-Ok-clause-planned
returns-in-Ok-clause-planned g c =
    let b = c.serve_under_seats-served.ensures.all_back.1 in (
      b.came,
      pairs_of b.dones,
      b.came',
      b.went,
      planned_at g.L.Link.telling c.args.lanes.items c.finish.result.items c.in-Ok.master c.in-Ok.ensures.master
          c.requires.unused b c.finish.ensures,
    )

pub returns-in-Err-clause-planned : goal.returns-in-Err-clause-planned
returns-in-Err-clause-planned g c =
    let olds = c.args.lanes.items in
    let news = c.in-Err.returned.lanes.items in
    gives_none g.D.Door g.D.Incoming.Source g.D.Outgoing.Sink c.args.door.now
    (ArePlannedAt c.args.states.now olds news)
    (planned_none c.a_record_tells_its_lane.ensures g.L.Link.telling c.args.states.now olds news c.requires.unused
    c.in-Err.ensures.returned)

pub returns-in-Ok-clause-all : goal.returns-in-Ok-clause-all
returns-in-Ok-clause-all g c = c.serve_under_seats-served.ensures.all

pub returns-in-Ok-clause-had_memory : goal.returns-in-Ok-clause-had_memory
returns-in-Ok-clause-had_memory g c = c.serve_under_seats-served.ensures.had_memory

pub returns-in-Ok-clause-none_out : goal.returns-in-Ok-clause-none_out
returns-in-Ok-clause-none_out g c = c.serve_under_seats-served.ensures.none_out

pub returns-in-Ok-clause-listens : goal.returns-in-Ok-clause-listens
returns-in-Ok-clause-listens g c = c.serve_under_seats-served.ensures.listens

pub returns-in-Ok-clause-door_faults : goal.returns-in-Ok-clause-door_faults
returns-in-Ok-clause-door_faults g c = c.serve_under_seats-served.ensures.door_faults

pub returns-in-Ok-clause-not_rack : goal.returns-in-Ok-clause-not_rack
returns-in-Ok-clause-not_rack g c = c.serve_under_seats-served.ensures.not_rack

pub returns-in-Err-clause-listens : goal.returns-in-Err-clause-listens
returns-in-Err-clause-listens g c = grind (arith, common_steps)

pub returns-in-Err-clause-door_faults : goal.returns-in-Err-clause-door_faults
returns-in-Err-clause-door_faults g c = grind (arith, common_steps)

pub returns-in-Err-clause-not_rack : goal.returns-in-Err-clause-not_rack
returns-in-Err-clause-not_rack g c = grind (arith, common_steps)

pub new-requires-send-V : goal.new-requires-send-V
new-requires-send-V g c κs within = search (lane_send, sendable)

pub finish-requires-send-V : goal.finish-requires-send-V
finish-requires-send-V g c κs within = search (lane_send, sendable)
