use Rattle.std.proofs.Common.{sym, ◌∙◌}
use Rattle.capture_reader.proofs.RowLaws.{on_raw, no_status_request}
use Rattle.capture_reader.proofs.describing.push_sent_status.Goals as goal

pub returns-else-same_bytes : goal.returns-else-same_bytes
returns-else-same_bytes c =
    on_raw c.push_raw.result c.args.item.now _ _
    (no_status_request c.args.item.now c.args.packet.now c.requires.of c.requires.kind c.requires.sent
    (λ is. let e = sym c.if-same_bytes.false ∙ c.same_bytes.ensures.1
    (c.as_slice.ensures ∙ (is ∙ sym c.write_status_request.ensures)) in cc))
    c.push_raw.ensures
