use Rattle.masked_fields.proofs.FieldValues.{FitsMask-field, put_field-field}
use Rattle.masked_fields.proofs.laws.a_field_put_back_changes_nothing.Goals as goal

pub returns-clause-fits : goal.returns-clause-fits
returns-clause-fits c = FitsMask-field

pub returns-clause-same : goal.returns-clause-same
returns-clause-same c = put_field-field
