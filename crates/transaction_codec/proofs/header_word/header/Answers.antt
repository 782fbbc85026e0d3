use Rattle.std.proofs.Common.{arith}
use Rattle.transaction_codec.proofs.Packing.{packed}
use Rattle.transaction_codec.proofs.header_word.header.Goals as goal

pub returns : goal.returns
returns c =
    rw (c.from.ensures, c.from-2.ensures, c.from-3.ensures, c.from-4.ensures)
    (packed c.args.tid c.args.count c.args.kind c.args.code c.requires.tid_fits (omega arith) c.requires.kind_fits
    c.requires.code_fits)
