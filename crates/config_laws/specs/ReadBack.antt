-- Values whose text is read back as these values. TOML; profile.
use Rattle.std.specs.Prelude.{◌≡◌, ℕ, ◌^◌, ◌<◌, Bool, true, false, List, [], ◌∷◌, length, Some}
use Rattle.std.specs.List.{AllByRecursion, list_all, slice_get}
use Rattle.toml_parser.specs.Lexical.{is_bare, quote}
use Rattle.toml_parser.specs.Strings.{is_plain}
use Rattle.board_specs.specs.declared.spec.BoardSpec.{BoardSpec}
use Rattle.node_tree.specs.Maps.{Name}
use Rattle.script_lang.specs.OwnNames.{HaveOwnNames}
use Rattle.config_store.specs.declared.state.StateEntry.{StateEntry}

-- a name that is a key without quotes
pub record IsBareKey (name : Name) : Type 0 where
  pub some : 0 < length name
  pub bare : list_all is_bare name ≡ true

-- a byte that stands for itself between quotes
abbrev pub is_quotable : ℕ → Bool
is_quotable byte = is_plain quote false byte

-- the name stands for itself between quotes, and the value has 32 bits
pub record CanBeSpelled (entry : StateEntry) : Type 0 where
  pub quotable : list_all is_quotable entry.name ≡ true
  pub word : entry.value < 2 ^ 32

-- the value is for another register
pub record IsApartFrom (entry other : StateEntry) : Type 0 where
  pub differ : entry.board ≡ other.board → entry.name ≡ other.name → ⊥

-- each value is for another register than those behind it
abbrev pub AreApart : List StateEntry → Type 0
AreApart [] = Unit {0}
AreApart (entry ∷ entries) = AllByRecursion (IsApartFrom entry) entries × AreApart entries

-- the value is of one of these boards
pub record IsOfSomeBoard (specs : List BoardSpec) (entry : StateEntry) : Type 0 where
  pub place : ℕ
  pub spec : BoardSpec
  pub there : slice_get specs place ≡ Some spec
  pub called : spec.name ≡ entry.board

-- The boards have keys of their own, and each value is of one of them, for a register of its own.
pub record CanBeReadBack (specs : List BoardSpec) (entries : List StateEntry) : Type 0 where
  pub some : 0 < length specs
  pub own : HaveOwnNames specs
  pub boards : AllByRecursion (λ (spec : BoardSpec). IsBareKey spec.name) specs
  pub spelled : AllByRecursion CanBeSpelled entries
  pub apart : AreApart entries
  pub on : AllByRecursion (IsOfSomeBoard specs) entries
