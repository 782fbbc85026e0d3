use Rattle.std.proofs.Common.{refl, arith}
use Rattle.capture_reader.specs.declared.hex.TheConstants.{DIGITS}
use Rattle.capture_reader.specs.Reading.{digit_of}
use Rattle.capture_reader.proofs.DigitTables.{read_by_table}
use Rattle.capture_reader.proofs.hex.digit_of.Goals as goal

pub returns : goal.returns
unfolding digit_of
returns c = read_by_table DIGITS.now digit_of 256 c.args.byte refl (omega arith)
