use Rattle.masked_fields.specs.Field.{shifted_value}
use Rattle.masked_fields.proofs.FieldValues.{field-put_field}
use Rattle.masked_fields.proofs.Masks.{joined_outside, joined_word}
use Rattle.masked_fields.proofs.laws.a_field_gives_back_what_was_put.Goals as goal

pub returns-clause-inside : goal.returns-clause-inside
returns-clause-inside c word mask value some fits small inside = field-put_field word mask value fits inside

pub returns-clause-outside : goal.returns-clause-outside
returns-clause-outside c word mask value some fits small inside = joined_outside mask word (shifted_value mask value) fits
    inside

pub returns-clause-word : goal.returns-clause-word
returns-clause-word c word mask value some fits small inside = joined_word mask word (shifted_value mask value) fits small
    inside
