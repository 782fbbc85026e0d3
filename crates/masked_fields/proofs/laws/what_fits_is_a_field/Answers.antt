use Rattle.std.proofs.Common.{subst}
use Rattle.masked_fields.specs.Field.{shifted_value, FitsMask}
use Rattle.masked_fields.proofs.FieldValues.{FitsMask-field, field-shifted, shifted_word}
use Rattle.masked_fields.proofs.laws.what_fits_is_a_field.Goals as goal

pub returns : goal.returns
returns c mask value some fits = (
  λ inside. (shifted_value mask value, shifted_word mask value fits inside, field-shifted mask value inside),
  λ found. subst (FitsMask mask) found.2 (FitsMask-field found.0 mask some fits),
)
