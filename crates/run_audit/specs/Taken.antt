-- Which places are taken: what private functions promise one another. No public clause speaks of it.
use Rattle.std.specs.Prelude.{ℕ, Bool, slice_index_or}
use Rattle.std.specs.BTreeSet.{contains}
use Rattle.std.specs.Ordering.{nat_cmp}
use Rattle.run_audit.specs.declared.taken.Taken.{Taken}

abbrev pub has : Taken → ℕ → Bool
has taken place = slice_index_or taken.low.items place (contains nat_cmp taken.high place)
