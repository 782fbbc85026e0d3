use Rattle.std.proofs.Common.{◌≡◌, List, ℕ, refl, sym, subst, ◌∙◌}
use Rattle.packet_codec.specs.Packet.{packet_bytes}
use Rattle.status_packet.specs.Packets.{status_reply}
use Rattle.status_packet.specs.StatusBytes.{IsStatusReply}
use Rattle.capture_reader.specs.Rows.{Status}
use Rattle.capture_reader.proofs.RowLaws.{on_raw, on_row, no_status, status_row}
use Rattle.capture_reader.proofs.describing.push_received_status.Goals as goal

pub returns-in_default : goal.returns-in_default
returns-in_default c =
    on_raw c.push_raw.result c.args.item.now _ _
    (no_status c.args.item.now c.args.packet.now c.requires.of c.requires.kind c.requires.received
    (λ mtu buffers next m b n is.
    let told = subst (λ (bytes : List ℕ). IsStatusReply bytes mtu buffers next) (sym (c.as_slice.ensures ∙ is))
    (c.what_is_written_is_known.ensures.reply mtu buffers next) in
    let e = c.read_status_reply.ensures.only mtu buffers next m b n told in
    absurd (rw c.in_default.is at e)))
    c.push_raw.ensures

pub returns-then-same_bytes : goal.returns-then-same_bytes
returns-then-same_bytes c =
    let status = c.in-Ok.status in
    on_row c.push_status_row.result c.args.item.now (Status status.mtu status.buffers status.next) _ _
    (status_row c.args.item.now status.mtu status.buffers status.next c.each_is_a_packet.ensures.reply
    c.requires.received status.mtu_in_range status.buffers_in_range c.get-next.ensures.range
    (sym c.as_slice-2.ensures ∙ (c.same_bytes.ensures.0 c.if-same_bytes.true ∙ c.write_status_reply.ensures)))
    c.push_status_row.ensures

pub returns-else-same_bytes : goal.returns-else-same_bytes
returns-else-same_bytes c =
    let status = c.in-Ok.status in
    on_raw c.push_raw-else-same_bytes.result c.args.item.now _ _
    (no_status c.args.item.now c.args.packet.now c.requires.of c.requires.kind c.requires.received
    (λ mtu buffers next m b n is.
    let told = subst (λ (bytes : List ℕ). IsStatusReply bytes mtu buffers next) (sym (c.as_slice.ensures ∙ is))
    (c.what_is_written_is_known.ensures.reply mtu buffers next) in
    let same = c.in-Ok.ensures.only mtu buffers next m b n told in
    let written : packet_bytes (status_reply mtu buffers next)
    ≡ packet_bytes (status_reply status.mtu status.buffers status.next) = rw (same.0, same.1, same.2) refl in
    let e = sym c.if-same_bytes.false ∙ c.same_bytes.ensures.1
    (c.as_slice-2.ensures ∙ (is ∙ (written ∙ sym c.write_status_reply.ensures))) in cc))
    c.push_raw-else-same_bytes.ensures
