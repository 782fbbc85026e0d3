use Rattle.std.proofs.Common.{rules, ◌≡◌, true, false, inl}
use Rattle.links.proofs.Reading.{are_bytes, no_packet, packet_read}
use Rattle.links.proofs.message.read_for_hub.Goals as goal

pub returns-in-Ok : goal.returns-in-Ok
returns-in-Ok c =
    let s = c.in-Ok.status in
    (c.what_a_hub_reads.ensures.status c.args.bytes.now s.mtu s.buffers s.next
    (are_bytes c.args.bytes.now (λ k. search rules))).1
    (s.mtu_in_range, s.buffers_in_range, c.get-next.ensures.range, c.in-Ok.ensures.found)

pub returns-in-Ok-read_packet : goal.returns-in-Ok-read_packet
returns-in-Ok-read_packet c =
    let bytes = c.args.bytes.now in
    let fits = are_bytes bytes (λ k. search rules) in
    let found = c.in-Ok-read_packet.ensures.found in
    packet_read bytes c.in-Ok-read_packet.packet c.reply_in.result
    (λ mtu buffers next. c.what_a_hub_reads.ensures.status bytes mtu buffers next fits)
    (λ id words. c.what_a_hub_reads.ensures.reply bytes id words fits)
    (λ mtu buffers next a b d e. c.in_default.ensures.only mtu buffers next a b d e)
    found.0 found.1 (λ packet is spelled. c.in-Ok-read_packet.ensures.only packet is spelled) c.reply_in.ensures

pub returns-else-eq : goal.returns-else-eq
returns-else-eq c =
    let bytes = c.args.bytes.now in
    let fits = are_bytes bytes (λ k. search rules) in
    inl (no_packet bytes
    (λ mtu buffers next. c.what_a_hub_reads.ensures.status bytes mtu buffers next fits)
    (λ id words. c.what_a_hub_reads.ensures.reply bytes id words fits)
    (λ mtu buffers next a b d e. c.in_default.ensures.only mtu buffers next a b d e)
    (λ packet is spelled.
    let same = c.in-Err.ensures.only packet is spelled in
    let untrue : false ≡ true = rw same at c.if-eq.ensures in
    absurd cc))
