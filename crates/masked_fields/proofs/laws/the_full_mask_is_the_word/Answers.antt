use Rattle.std.proofs.Common.{refl, arith}
use Rattle.std.specs.Int.Bits.{and_zero_r}
use Rattle.std.specs.Int.Count.{count_trailing_zeros}
use Rattle.std.proofs.lemmas.Nat.{and_mask}
use Rattle.masked_fields.proofs.laws.the_full_mask_is_the_word.Goals as goal

pub returns-clause-shift : goal.returns-clause-shift
unfolding count_trailing_zeros
returns-clause-shift c = refl

pub returns-clause-field : goal.returns-clause-field
unfolding count_trailing_zeros
returns-clause-field c word small = omega (arith, and_mask word 32)

pub returns-clause-put : goal.returns-clause-put
unfolding count_trailing_zeros
returns-clause-put c word value small fits = omega (arith, and_zero_r word)
