use Rattle.std.proofs.Common.{refl}
use Rattle.config_store.proofs.SmallTables.{small}
use Rattle.config_store.proofs.examples.a_register_with_a_field_is_not_kept.Goals as goal

pub returns : goal.returns
returns c = rw small refl
