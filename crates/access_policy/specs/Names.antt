-- What a pattern sees of the name of a register: the ids between its dots, each with the index that may stand behind
-- it. Profile.
use Rattle.std.specs.Prelude.{◌≡◌, ◌≤◌, ℕ, ◌==◌, true, List, [], ◌∷◌, ◌++◌, map, codes, decimal, Option, Some, None, IfSome}
use Rattle.std.specs.List.{join_with_byte, slice_split}
use Rattle.std.specs.Option.{option_map_or, unwrap_or}
use Rattle.address_table.specs.Rules.{is_id}
use Rattle.node_tree.specs.Names.{dot}
use Rattle.script_lang.specs.Texts.{◌>>=◌, cut_at, decimal_between}
use Rattle.access_policy.specs.declared.limits.TheConstants.{MAX_INDEX}

-- an id of a name, and its index where it has one
pub record NameItem : Type 0 where
  pub id : List ℕ
  pub index : Option ℕ

-- what stands before a byte that is the last one of a text
abbrev pub before_last_byte : List ℕ × List ℕ → Option (List ℕ)
before_last_byte (inside, []) = Some inside
before_last_byte (inside, byte ∷ bytes) = None

-- `ID[INSIDE]`: what stands before the first bracket, and what stands in brackets behind it, up to the end
unfoldable pub in_brackets : List ℕ → Option (List ℕ × List ℕ)
in_brackets text = do
  parts ← cut_at 91 text
  behind ← cut_at 93 parts.1
  inside ← before_last_byte behind
  Some (parts.0, inside)

-- the index that digits write: decimal, without leading zeros
abbrev pub index_in : List ℕ → Option ℕ
index_in digits = decimal_between 0 MAX_INDEX digits

-- an id with an index, as it stands between dots
unfoldable pub item_with_index : List ℕ → Option NameItem
item_with_index text = do
  parts ← in_brackets text
  index ← index_in parts.1
  Some (record { id = parts.0; index = Some index })

-- what stands between dots: an id with an index where it is written so, else all of it is the id
abbrev pub item_of : List ℕ → NameItem
item_of text = unwrap_or (item_with_index text) (record { id = text; index = None })

-- what stands between the dots of a text
abbrev pub parts_of : List ℕ → List (List ℕ)
parts_of text = slice_split (λ byte. byte == dot) text

-- the ids of a name with their indexes
abbrev pub items_of : List ℕ → List NameItem
items_of name = map item_of (parts_of name)

-- how an id is written with its index, and a name with its dots
abbrev pub index_text : Option ℕ → List ℕ
index_text index = option_map_or (λ i. codes "[" ++ (decimal i ++ codes "]")) index []

abbrev pub item_text : NameItem → List ℕ
item_text item = item.id ++ index_text item.index

abbrev pub name_text : List NameItem → List ℕ
name_text items = join_with_byte dot (map item_text items)

-- an id of a register's name keeps the rule of ids, and an index is one that a node can have
pub record IsNameItem (item : NameItem) : Type 0 where
  pub id' : is_id item.id ≡ true
  pub index' : IfSome item.index (λ i. i ≤ MAX_INDEX)
