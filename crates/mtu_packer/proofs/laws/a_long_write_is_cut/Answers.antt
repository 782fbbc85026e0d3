use Rattle.std.proofs.Common.{◌≤◌, refl, arith}
use Rattle.mtu_packer.proofs.laws.a_long_write_is_cut.Goals as goal

pub returns-clause-packing : goal.returns-clause-packing
returns-clause-packing c = record {
  whole = refl;
  filled = (omega arith, (omega arith, tt));
  fits = (
    record { request = omega arith; reply = omega arith },
    (
      record {
        request = omega arith;
        reply =
            omega arith;
      },
      tt,
    ),
  );
  full = (λ fits. absurd (let request : 19 ≤ 16 = fits.request in omega arith), tt);
}

pub returns-clause-words : goal.returns-clause-words
returns-clause-words c = refl
