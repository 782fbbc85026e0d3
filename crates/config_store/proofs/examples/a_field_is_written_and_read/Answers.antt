use Rattle.std.proofs.Common.{refl}
use Rattle.std.specs.Fmt.{digits}
use Rattle.config_store.proofs.SmallTables.{small}
use Rattle.config_store.proofs.examples.a_field_is_written_and_read.Goals as goal

pub returns-clause-save : goal.returns-clause-save
returns-clause-save c = rw small refl

pub returns-clause-apply : goal.returns-clause-apply
unfolding digits
returns-clause-apply c = rw small refl
