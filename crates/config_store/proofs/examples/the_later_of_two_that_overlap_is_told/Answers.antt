use Rattle.std.proofs.Common.{refl}
use Rattle.config_store.proofs.SmallTables.{overlapping}
use Rattle.config_store.proofs.examples.the_later_of_two_that_overlap_is_told.Goals as goal

pub returns : goal.returns
returns c = rw overlapping refl
