use Rattle.std.proofs.Common.{◌≤◌, refl, arith}
use Rattle.mtu_packer.proofs.laws.a_block_read_is_cut_by_the_words_field.Goals as goal

pub returns-clause-cut : goal.returns-clause-cut
returns-clause-cut c = refl

pub returns-clause-port : goal.returns-clause-port
returns-clause-port c = refl

pub returns-clause-packing : goal.returns-clause-packing
returns-clause-packing c = record {
  whole = refl;
  filled = (omega arith, (omega arith, tt));
  fits = (
    record { request = omega arith; reply = omega arith },
    (
      record {
        request = omega arith;
        reply =
            omega arith;
      },
      tt,
    ),
  );
  full = (λ fits. absurd (let reply : 513 ≤ 368 = fits.reply in omega arith), tt);
}

pub returns-clause-places : goal.returns-clause-places
returns-clause-places c = refl
