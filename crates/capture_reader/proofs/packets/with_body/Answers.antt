use Rattle.std.proofs.Common.{arith}
use Rattle.packet_codec.proofs.PacketLemmas.{head_has_bytes, head_with_body, packet_back}
use Rattle.capture_reader.proofs.packets.with_body.Goals as goal

pub split_at-requires : goal.split_at-requires
split_at-requires c = head_has_bytes c.args.bytes.now c.args.head c.requires

pub returns : goal.returns
returns c =
    packet_back c.args.bytes.now _ (λ i. omega (arith, c.type_inv.bytes i))
    (rw (c.from_vec.ensures, c.in_ok-read_words.ensures, c.split_at.ensures.back) (head_with_body c.args.bytes.now c.args.head c.requires))
