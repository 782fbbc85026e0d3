-- Small values of documents, for worked examples.
use Rattle.std.specs.Prelude.{ℕ, List, [], ◌∷◌}
use Rattle.toml.specs.Data.{Data, string, array, table, Items, no_items, item, Members, no_members, member}

abbrev pub members_of : List (List ℕ × Data) → Members
members_of [] = no_members
members_of (key ∷ keys) = member key.0 key.1 (members_of keys)

-- a node with these keys and values
abbrev pub node_with : List (List ℕ × Data) → Data
node_with keys = table (members_of keys)

abbrev pub items_of : List Data → Items
items_of [] = no_items
items_of (value ∷ values) = item value (items_of values)

abbrev pub array_of : List Data → Data
array_of values = array (items_of values)

-- a key with a value
abbrev pub key_with : List ℕ → Data → List ℕ × Data
key_with key value = (key, value)

-- a key with a text
abbrev pub says : List ℕ → List ℕ → List ℕ × Data
says key text = key_with key (string text)
