use Rattle.std.proofs.Common.{arith}
use Rattle.capture_reader.proofs.Lines.{bytes_fit}
use Rattle.capture_reader.proofs.undescribing.is_short.Goals as goal

pub returns-clause-bytes : goal.returns-clause-bytes
returns-clause-bytes c = bytes_fit c.args.bytes.now (λ i. omega (arith, c.type_inv.bytes i))
