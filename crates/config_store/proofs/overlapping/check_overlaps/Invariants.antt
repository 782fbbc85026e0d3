use Rattle.std.proofs.Common.{◌≡◌, [], take, drop}
use Rattle.config_store.specs.Overlaps.{overlapping_names}
use Rattle.config_store.specs.Searches.{AreTaken}
use Rattle.config_store.proofs.overlapping.check_overlaps.Given as goal

-- the bits of the registers so far are taken, and the names are those of registers that are left
abbrev pub invariant-loop-entry : goal.invariant-loop-entry
invariant-loop-entry l = record {
  taken : AreTaken l.masks (take l.entry-index l.kept);
  names : overlapping_names (take l.entry-index l.kept) (drop l.entry-index l.kept) ≡ overlapping_names [] l.kept;
}
