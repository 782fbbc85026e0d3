use Rattle.std.proofs.Common.{ℕ, List, Some, length, sym, ap, subst, ◌∙◌, min}
use Rattle.std.proofs.lemmas.List.{length-map}
use Rattle.ipb_base.specs.Lists.{IsPrefix}
use Rattle.world_model.specs.Facts.{offered_body}
use Rattle.world_model.specs.Places.{at_place}
use Rattle.reliable_engine.specs.Traffic.{first_sends_in}
use Rattle.board_history.specs.History.{bodies_by_client, outcomes_by_client}
use Rattle.board_history.specs.Machine.{packet_of, packets_of}
use Rattle.board_history.specs.Order.{Placed, order}
use Rattle.board_history.proofs.MachineLaws.{front_over_link, packets_same, sent_over_link, stands_at}
use Rattle.board_history.proofs.machine_laws.first_sends_are_the_order_of_a_board.Goals as goal

pub returns-clause-packets : goal.returns-clause-packets
returns-clause-packets c = λ settings payload run link is.
    let first = is.status.next in
    c.first_sends_are_the_packets_of_places.ensures.packets first (min settings.window is.status.buffers)
    settings.rounds is.events is.traffic is.end is.end.fates is.fresh is.machine
    ∙ (packets_same first 1 is.end.sent ∙ ap (packets_of first 1) is.sent)

pub returns-clause-each : goal.returns-clause-each
returns-clause-each c = λ settings payload run link is place body at.
    let first = is.status.next in
    let stands = stands_at is.end.sent place body (ap (λ (bs : List (List ℕ)). at_place bs place) is.sent ∙ at) in
    c.first_sends_are_the_packets_of_places.ensures.each first (min settings.window is.status.buffers)
    settings.rounds is.events is.traffic is.end is.end.fates place stands.offered is.fresh is.machine stands.there
    ∙ ap (λ (b : List ℕ). Some (packet_of first place b)) stands.body'

pub returns-clause-count : goal.returns-clause-count
returns-clause-count c = λ settings payload run link is.
    let first = is.status.next in
    let placed = order (bodies_by_client run) (outcomes_by_client run) in
    c.first_sends_are_the_packets_of_places.ensures.count first (min settings.window is.status.buffers)
    settings.rounds is.events is.traffic is.end is.end.fates is.fresh is.machine
    ∙ (sym (length-map is.end.sent offered_body) ∙ (ap length is.sent
    ∙ length-map placed (λ (p : Placed). p.body)))

pub returns-clause-on_good_link : goal.returns-clause-on_good_link
returns-clause-on_good_link c = λ settings payload run link is none.
    let first = is.status.next in
    sent_over_link is.failed link.faults first settings.rounds is.status is.greeting is.traffic link.traffic
    is.only_failed none is.greeted is.passed
    ∙ (c.first_sends_are_the_packets_of_places.ensures.packets first (min settings.window is.status.buffers)
    settings.rounds is.events is.traffic is.end is.end.fates is.fresh is.machine
    ∙ (packets_same first 1 is.end.sent ∙ ap (packets_of first 1) is.sent))

pub returns-clause-on_link : goal.returns-clause-on_link
returns-clause-on_link c = λ settings payload run link is.
    let first = is.status.next in
    subst (IsPrefix (first_sends_in first 0 link.traffic))
    (c.first_sends_are_the_packets_of_places.ensures.packets first (min settings.window is.status.buffers)
    settings.rounds is.events is.traffic is.end is.end.fates is.fresh is.machine
    ∙ (packets_same first 1 is.end.sent ∙ ap (packets_of first 1) is.sent))
    (front_over_link is.failed first settings.rounds is.status is.greeting is.traffic link.traffic is.greeted is.passed)
