use Rattle.std.proofs.Common.{min, inl, refl}
use Rattle.status_packet.specs.Packets.{status_request}
use Rattle.reliable_engine.specs.Traffic.{IsSendWith, SpellPacket}
use Rattle.board_history.proofs.MachineLaws.{over_link, sent_was_asked}
use Rattle.board_history.proofs.machine_laws.nothing_else_goes_to_a_board.Goals as goal

pub returns-clause-each : goal.returns-clause-each
returns-clause-each c = λ settings payload run link is.
    over_link (IsSendWith is.status.next is.end.sent) (inl refl) is.failed settings.rounds is.status is.greeting
    is.traffic link.traffic is.greeted
    (c.nothing_else_is_sent.ensures.each is.status.next (min settings.window is.status.buffers) settings.rounds
    is.events is.traffic is.end is.end.fates is.fresh is.machine)
    is.passed

pub returns-clause-packets : goal.returns-clause-packets
returns-clause-packets c = λ settings payload run link is.
    over_link SpellPacket
    (record { packet = status_request; is_packet = c.each_is_a_packet.ensures.request; bytes_are = refl }) is.failed
    settings.rounds is.status is.greeting is.traffic link.traffic is.greeted
    (c.nothing_else_is_sent.ensures.packets is.status.next (min settings.window is.status.buffers) settings.rounds
    is.events is.traffic is.end is.end.fates is.fresh is.machine)
    is.passed

pub returns-clause-asked : goal.returns-clause-asked
returns-clause-asked c = λ settings payload run link is.
    sent_was_asked is.failed is.end.sent is.asked is.events is.offered
    (c.nothing_else_is_sent.ensures.offered is.status.next (min settings.window is.status.buffers) settings.rounds
    is.events is.traffic is.end is.end.fates is.machine)
