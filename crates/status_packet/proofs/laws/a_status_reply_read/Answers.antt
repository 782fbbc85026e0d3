use Rattle.std.proofs.Common.{refl, replicate, inl, inr, arith, lit<}
use Rattle.ipb_base.specs.Word.{big_endian}
use Rattle.status_packet.proofs.laws.a_status_reply_read.Goals as goal

pub returns-clause-reply : goal.returns-clause-reply
returns-clause-reply c = record { whole = refl; begins = (big_endian (replicate 12 0), refl) }

pub returns-clause-too_many_buffers : goal.returns-clause-too_many_buffers
returns-clause-too_many_buffers c = record {
  whole = refl;
  mtu = 1500;
  buffers = 65;
  next = 0x200001f0;
  words = (lit< tt, (lit< tt, (lit< tt, tt)));
  begins = (big_endian (replicate 12 0), refl);
  broken = inr (inl (λ is. let most = is.1 in omega arith));
}
