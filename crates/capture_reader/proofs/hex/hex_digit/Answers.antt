use Rattle.std.proofs.Common.{refl, codes}
use Rattle.capture_reader.specs.CaptureText.{hex_digit}
use Rattle.capture_reader.proofs.DigitTables.{read_by_table}
use Rattle.capture_reader.proofs.hex.hex_digit.Goals as goal

pub returns : goal.returns
returns c = read_by_table (codes "0123456789abcdef") hex_digit 16 c.args.n refl c.requires
