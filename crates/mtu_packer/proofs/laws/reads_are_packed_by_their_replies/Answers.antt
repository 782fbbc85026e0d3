use Rattle.std.proofs.Common.{◌≤◌, refl, arith}
use Rattle.mtu_packer.proofs.laws.reads_are_packed_by_their_replies.Goals as goal

pub returns : goal.returns
returns c = record {
  whole = refl;
  filled = (omega arith, (omega arith, tt));
  fits = (
    record { request = omega arith; reply = omega arith },
    (
      record {
        request = omega arith;
        reply =
            omega arith;
      },
      tt,
    ),
  );
  full = (λ fits. absurd (let reply : 19 ≤ 16 = fits.reply in omega arith), tt);
}
