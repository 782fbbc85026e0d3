-- Kept registers of a board that share bits of a word: a text of such values would say the same bit twice. Profile.
use Rattle.std.specs.Prelude.{ℕ, List, [], ◌∷◌, ◌++◌, if◌then◌else◌, Option, option_map}
use Rattle.std.specs.List.{list_any, slice_get}
use Rattle.node_tree.specs.Maps.{Name}
use Rattle.node_tree.specs.Overlaps.{overlap}
use Rattle.node_tree.specs.declared.register.Register.{Register}

-- the name of a register that overlaps one of those before it
abbrev pub overlapping_name : List (Name × Register) → Name × Register → List Name
overlapping_name before e = if list_any (λ a. overlap a e) before then e.0 ∷ [] else []

-- the names of those that overlap one before them, in their order
abbrev pub overlapping_names : List (Name × Register) → List (Name × Register) → List Name
overlapping_names before [] = []
overlapping_names before (e ∷ es) = overlapping_name before e ++ overlapping_names (before ++ e ∷ []) es

-- the name of the second register of a pair of places
abbrev pub name_of : List (Name × Register) → ℕ × ℕ → Option Name
name_of es pair = option_map (λ e. e.0) (slice_get es pair.1)
