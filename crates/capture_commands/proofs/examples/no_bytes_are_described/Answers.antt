use Rattle.std.proofs.Common.{refl, arith}
use Rattle.std.specs.Fmt.{digits}
use Rattle.capture_reader.specs.Examples.{one_empty}
use Rattle.capture_commands.proofs.ReadLemmas.{empty_is}
use Rattle.capture_commands.proofs.examples.no_bytes_are_described.Goals as goal

pub returns-clause-described : goal.returns-clause-described
unfolding digits
returns-clause-described c = record {
  capture = one_empty;
  read = record { fits = omega arith; is_capture = empty_is; spelled = refl };
  described = c.no_bytes.ensures.description;
  told = refl;
}

pub returns-clause-undescribed : goal.returns-clause-undescribed
unfolding digits
returns-clause-undescribed c = record {
  capture = one_empty;
  read = record { fits = omega arith; is_capture = empty_is; described = c.no_bytes.ensures.description };
  spelled = refl;
  told = refl;
}
