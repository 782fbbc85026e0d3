use Rattle.std.proofs.Common.{refl, replicate}
use Rattle.ipb_base.specs.Word.{big_endian}
use Rattle.status_packet.proofs.laws.what_is_written_is_known.Goals as goal

pub returns-clause-request : goal.returns-clause-request
returns-clause-request c = record { whole = refl; begins = (big_endian (replicate 15 0), refl) }

pub returns-clause-reply : goal.returns-clause-reply
returns-clause-reply c mtu buffers next = record { whole = refl; begins = (big_endian (replicate 12 0), refl) }
