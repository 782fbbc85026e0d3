use Rattle.std.proofs.Common.{sym, refl, inr, ◌∙◌}
use Rattle.capture_reader.specs.Rows.{raw_text}
use Rattle.capture_reader.proofs.RowLaws.{of_no_row}
use Rattle.capture_reader.proofs.describing.push_datagram.Goals as goal

pub returns-in_default : goal.returns-in_default
returns-in_default c = (
  raw_text c.args.item.now,
  inr (
    of_no_row c.args.item.now c.as_slice.result.now c.in_default.field-0 c.as_slice.ensures
        (sym c.in_default.is ∙ c.read_head.ensures.head),
    refl,
  ),
  c.in_ok-push_raw.ensures,
)

pub push_packet-requires : goal.push_packet-requires
push_packet-requires c =
    record {
      range = c.in_ok-packet.ensures.0;
      spelled = sym c.as_slice-2.ensures ∙ c.in_ok-packet.ensures.1;
    }
