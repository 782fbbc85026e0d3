use Rattle.std.proofs.Common.{refl}
use Rattle.config_store.proofs.SmallTables.{dashed}
use Rattle.config_store.proofs.examples.names_are_parted_by_dots.Goals as goal

pub returns : goal.returns
returns c = rw dashed refl
