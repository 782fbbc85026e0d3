use Rattle.std.proofs.Common.{◌<◌, ◌^◌, arith, lit<}
use Rattle.packet_codec.specs.declared.packet.PacketKind.{PacketKind}
use Rattle.packet_codec.specs.declared.packet.PacketKind.TheVariants.{Control, Status, Resend}
use Rattle.packet_codec.specs.Header.{kind_code}
use Rattle.packet_codec.proofs.HeaderLemmas.{fields_joined}
use Rattle.packet_codec.proofs.header.header_word.Goals as goal

code_fits : (kind : PacketKind) → kind_code kind < 2 ^ 4
code_fits Control = lit< tt
code_fits Status = lit< tt
code_fits Resend = lit< tt

pub returns : goal.returns
returns c = rw (c.from.ensures, c.from-2.ensures, c.code.ensures) (fields_joined c.args.id (kind_code c.args.kind)
    (omega arith) (code_fits c.args.kind))
