-- The order of values: by the boards' names, and then by the registers'. Profile.
use Rattle.std.specs.declared.cmp.Ordering.{Ordering}
use Rattle.std.specs.Ordering.{nat_cmp, ordering_then}
use Rattle.std.specs.Cmp.Lexicographic.{slice_cmp}
use Rattle.std.specs.Prelude.{List}
use Rattle.std.specs.List.Sorted.{IsStrictlySortedBy}
use Rattle.config_store.specs.declared.state.StateEntry.{StateEntry}

-- how a value stands to another, by the bytes of the names
abbrev pub entry_cmp : StateEntry → StateEntry → Ordering
entry_cmp a b = ordering_then (slice_cmp nat_cmp a.board b.board) (slice_cmp nat_cmp a.name b.name)

-- each value is before those behind it, so no register of a board has two
abbrev pub AreInOrder : List StateEntry → Type 0
AreInOrder entries = IsStrictlySortedBy entry_cmp entries
