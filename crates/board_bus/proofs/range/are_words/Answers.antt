use Rattle.std.proofs.Common.{arith}
use Rattle.ipb_base.proofs.WordLemmas.{AreWords-at}
use Rattle.board_bus.proofs.range.are_words.Goals as goal

pub returns : goal.returns
returns c = AreWords-at c.args.words.now (λ i. omega (arith, c.type_inv.words i))
