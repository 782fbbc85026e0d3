-- Entries of a map with the bytes of their keys. Profile: names are compared byte by byte.
use Rattle.std.specs.Prelude.{ℕ, List, map, String, string_bytes, IsTrue}
use Rattle.std.specs.Ordering.{nat_cmp}
use Rattle.std.specs.Cmp.Lexicographic.{slice_cmp}
use Rattle.std.specs.FinMap.{is_sorted}
use Rattle.std.specs.declared.alloc.Global.{Global}

abbrev pub Name : Type 0
Name = List ℕ

abbrev pub named_entries : {V : Type 0} → List (String Global × V) → List (Name × V)
named_entries es = map (λ e. (string_bytes e.0, e.1)) es

-- the names rise, and no two are equal
abbrev pub AreInOrder : {V : Type 0} → List (String Global × V) → Type 0
AreInOrder es = IsTrue (is_sorted (slice_cmp nat_cmp) (named_entries es))
