use Rattle.std.proofs.Common.{sym, ◌∙◌}
use Rattle.packet_codec.proofs.PacketLemmas.{head_has_bytes, head_with_body}
use Rattle.packet_codec.proofs.reading.read_by_offsets.Goals as goal

pub split_at-requires : goal.split_at-requires
split_at-requires c = head_has_bytes c.args.bytes.now c.in_ok-head.head
    (sym c.read_head.ensures.head ∙ c.in_ok-head.was)

pub returns : goal.returns
returns c = rw (c.in_ok-read_words.ensures, c.split_at.ensures.back) (head_with_body c.args.bytes.now c.in_ok-head.head
    (sym c.read_head.ensures.head ∙ c.in_ok-head.was))
