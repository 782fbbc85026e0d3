use Rattle.config_store.specs.Puts.{put_all}
use Rattle.config_laws.specs.Writes.{puts_at}
use Rattle.config_laws.proofs.Fields.{own_field}
use Rattle.config_laws.proofs.writes.written_values_stand_and_other_fields_stay.Goals as goal

pub returns-clause-own : goal.returns-clause-own
returns-clause-own c = own_field c.writes_put_their_fields.ensures
    c.values_under_masks_that_are_apart_stay_apart.ensures.own

pub returns-clause-others : goal.returns-clause-others
returns-clause-others c = λ cells writes r word can done apart mask small read. (
  put_all word (puts_at r.address writes),
  c.writes_put_their_fields.ensures cells writes r.address word can done small read,
  c.values_under_masks_that_are_apart_stay_apart.ensures.others word r.mask (puts_at r.address writes) small mask apart,
)
