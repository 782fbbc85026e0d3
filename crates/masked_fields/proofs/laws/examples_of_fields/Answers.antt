use Rattle.std.proofs.Common.{refl}
use Rattle.std.specs.Int.Count.{count_trailing_zeros}
use Rattle.masked_fields.proofs.laws.examples_of_fields.Goals as goal

pub returns-clause-byte : goal.returns-clause-byte
unfolding count_trailing_zeros
returns-clause-byte c = refl

pub returns-clause-byte_put : goal.returns-clause-byte_put
unfolding count_trailing_zeros
returns-clause-byte_put c = refl

pub returns-clause-bit : goal.returns-clause-bit
unfolding count_trailing_zeros
returns-clause-bit c = refl

pub returns-clause-gap : goal.returns-clause-gap
unfolding count_trailing_zeros
returns-clause-gap c = refl

pub returns-clause-in_the_gap : goal.returns-clause-in_the_gap
unfolding count_trailing_zeros
returns-clause-in_the_gap c fits = cc

pub returns-clause-past_bit_31 : goal.returns-clause-past_bit_31
unfolding count_trailing_zeros
returns-clause-past_bit_31 c fits = cc
