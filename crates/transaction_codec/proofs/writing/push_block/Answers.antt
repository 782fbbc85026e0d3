use Rattle.std.proofs.Common.{arith}
use Rattle.transaction_codec.proofs.Steps.{words_fit}
use Rattle.transaction_codec.proofs.writing.push_block.Goals as goal

-- the items of a slice of 32-bit numbers are words
pub returns-clause-words : goal.returns-clause-words
returns-clause-words c = (omega arith, words_fit c.args.words.now c.type_inv.words)
