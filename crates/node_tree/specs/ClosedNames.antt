-- Names that end with a bracket, as those with an index do. No public clause speaks of them.
use Rattle.std.specs.Prelude.{◌≡◌, ◌-◌, ◌==◌, ◌&&◌, Bool, true, nat_lt, length, None, slice_index}
use Rattle.std.specs.Ordering.{nat_cmp}
use Rattle.std.specs.Cmp.Lexicographic.{slice_cmp}
use Rattle.std.specs.FinMap as map
use Rattle.node_tree.specs.Named.{Name}

abbrev pub is_closed : Name → Bool
is_closed name = nat_lt 0 (length name) && (slice_index name (length name - 1) == 93)

-- no name of a map does
abbrev pub HasNoClosed : {V : Type 0} → map.FinMap (slice_cmp nat_cmp) V → Type 0
HasNoClosed m = (name : Name) → is_closed name ≡ true → map.get m name ≡ None
