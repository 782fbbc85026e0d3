use Rattle.std.proofs.Common.{◌∙◌}
use Rattle.std.proofs.lemmas.Nat.{and_comm}
use Rattle.std.specs.Int.{w32, bit_not}
use Rattle.masked_fields.specs.Field.{shifted_value}
use Rattle.masked_fields.proofs.Masks.{no_bit_outside}
use Rattle.masked_fields.proofs.laws.the_terms_share_no_bit.Goals as goal

pub returns : goal.returns
returns c mask value fits inside = and_comm (bit_not w32 mask) (shifted_value mask value) ∙ no_bit_outside mask
    (shifted_value mask value) fits inside
