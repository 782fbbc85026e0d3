-- What the pattern of a rule matches: a board by its name, and a register by the ids of its name and their indexes, and
-- never by its address. Profile.
use Rattle.std.specs.Prelude.{◌≡◌, ◌≤◌, ℕ, ◌==◌, Bool, true, false, not, ◌&&◌, List, [], ◌∷◌, ◌++◌, length}
use Rattle.std.specs.Prelude.{is_none, is_some}
use Rattle.std.specs.Bool.{MatchBool}
use Rattle.std.specs.List.{AllZip}
use Rattle.std.specs.Str.{bytes_eq}
use Rattle.address_table.specs.Rules.{holds_of}
use Rattle.access_policy.specs.declared.policy.BoardPattern.{BoardPattern}
use Rattle.access_policy.specs.declared.policy.BoardPattern.TheVariants as boards
use Rattle.access_policy.specs.declared.policy.ItemPattern.{ItemPattern}
use Rattle.access_policy.specs.declared.policy.ItemPattern.TheVariants.{Any, Id, Indexed, AnyIndex}
use Rattle.access_policy.specs.declared.policy.Pattern.{Pattern}
use Rattle.access_policy.specs.Names.{NameItem}

-- `*`, or the name of the board
abbrev pub board_matches : BoardPattern → List ℕ → Bool
board_matches boards.Any board = true
board_matches (boards.Named name) board = bytes_eq name board

-- `*`: any id, indexed or not; `id`: this id without an index; `id[n]`: with this one; `id[*]`: with any
abbrev pub item_matches : ItemPattern → NameItem → Bool
item_matches Any item = true
item_matches (Id id) item = bytes_eq id item.id && is_none item.index
item_matches (Indexed id index) item = bytes_eq id item.id && holds_of (λ i. i == index) item.index
item_matches (AnyIndex id) item = bytes_eq id item.id && is_some item.index

-- item by item; where `**` stands behind them, at least one further id follows
abbrev pub items_match : List ItemPattern → Bool → List NameItem → Bool
items_match [] rest [] = not rest
items_match [] rest (item ∷ items) = rest
items_match (pattern ∷ patterns) rest [] = false
items_match (pattern ∷ patterns) rest (item ∷ items) = item_matches pattern item && items_match patterns rest items

abbrev pub pattern_matches : Pattern → List ℕ → List NameItem → Bool
pattern_matches pattern board items =
    board_matches pattern.board board && items_match pattern.items pattern.rest items

-- the same as a relation: the front of a name, item by item, and behind it what `**` stands for
pub record AreItems (patterns : List ItemPattern) (rest : Bool) (items : List NameItem) : Type 0 where
  pub front : List NameItem
  pub behind : List NameItem
  pub whole : items ≡ front ++ behind
  pub each : AllZip (λ pattern item. item_matches pattern item ≡ true) patterns front
  pub more : MatchBool rest (1 ≤ length behind) (behind ≡ [])
