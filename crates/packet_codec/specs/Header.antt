-- The packet header of IPbus 2.0.
use Rattle.std.specs.Prelude.{ℕ, ◌+◌, ◌*◌, ◌^◌}
use Rattle.ipb_base.specs.declared.version.TheConstants.{VERSION}
use Rattle.packet_codec.specs.declared.header.TheConstants.{BYTE_ORDER_QUALIFIER}
use Rattle.packet_codec.specs.declared.packet.PacketKind.{PacketKind}
use Rattle.packet_codec.specs.declared.packet.PacketKind.TheVariants.{Control, Status, Resend}

-- the type field
abbrev pub kind_code : PacketKind → ℕ
kind_code Control = 0
kind_code Status = 1
kind_code Resend = 2

-- The header word: the version in bits 31 to 28, zero in 27 to 24, the packet identifier in 23 to 8, the byte-order
-- qualifier in 7 to 4, the type in 3 to 0.
abbrev pub packet_header : ℕ → ℕ → ℕ
packet_header id kind = VERSION * 2 ^ 28 + id * 2 ^ 8 + BYTE_ORDER_QUALIFIER * 2 ^ 4 + kind
