-- What is wrong with the values of a session document: the ways to all faulty places, in the order of one walk. The
-- keys of a table stand in byte order in its members; items go by position; keys that are missing come after those that
-- are there, in byte order. Profile.
use Rattle.std.specs.Prelude.{ℕ, ◌+◌, Bool, not, ◌&&◌, if◌then◌else◌, List, [], ◌∷◌, ◌++◌, map, Option, Some, None}
use Rattle.std.specs.Prelude.{is_some}
use Rattle.toml.specs.Data.{Data, array, table, Items, no_items, item, Members, no_members, member, as_str}
use Rattle.ipb_base.specs.Digits.{is_between}
use Rattle.address_table.specs.Numbers.{number}
use Rattle.address_table.specs.Rules.{is_id, has_key, holds_of}
use Rattle.script_lang.specs.declared.keys.ItemKind.{ItemKind}
use Rattle.script_lang.specs.declared.keys.ItemKind.TheVariants as items
use Rattle.script_lang.specs.declared.keys.Kind.{Kind}
use Rattle.script_lang.specs.declared.keys.Kind.TheVariants.{Number, Text, Names, Array}
use Rattle.script_lang.specs.declared.steps.PathStep.{PathStep}
use Rattle.script_lang.specs.declared.steps.PathStep.TheVariants.{Key, Item}
use Rattle.script_lang.specs.Keys.{KeyRule, document_keys, keys_of, kind_at}
use Rattle.script_lang.specs.Texts.{keeps}

-- the way to a place from here
abbrev pub Way : Type 0
Way = List PathStep

-- one fault, at this place
abbrev pub here : List Way
here = [] ∷ []

-- one fault at this place, unless the test holds
abbrev pub unless : Bool → List Way
unless holds = if holds then [] else here

-- faults of a value, seen from the table or the array that it stands in
abbrev pub below : PathStep → List Way → List Way
below step ways = map (λ way. step ∷ way) ways

-- each needed key that is not there
abbrev pub missing : List KeyRule → Members → List Way
missing [] ms = []
missing (key ∷ keys) ms =
    if key.is_needed && not (has_key key.name ms) then (Key key.name ∷ []) ∷ missing keys ms else missing keys ms

-- each key that is no id
abbrev pub names_faults : Members → List Way
names_faults no_members = []
names_faults (member name value ms) = below (Key name) (unless (is_id name)) ++ names_faults ms

abbrev pub name_table_faults : Data → List Way
name_table_faults (table ms) = names_faults ms
name_table_faults _ = here

abbrev mutual
  -- A value under a key, judged by what may stand there; a key that the table does not have is a fault.
  pub value_faults : Option Kind → Data → List Way
  value_faults None value = here
  value_faults (Some (Number least most default)) value = unless (holds_of (is_between least most) (number value))
  value_faults (Some (Text rule)) value = unless (holds_of (keeps rule) (as_str value))
  value_faults (Some Names) value = name_table_faults value
  value_faults (Some (Array kind)) (array values) = items_faults kind 0 values
  value_faults (Some (Array kind)) value = here

  -- the items of an array, from a position on
  pub items_faults : ItemKind → ℕ → Items → List Way
  items_faults kind i no_items = []
  items_faults kind i (item value values) = below (Item i) (item_faults kind value) ++ items_faults kind (i + 1) values

  -- an item, a number, a text or a table
  pub item_faults : ItemKind → Data → List Way
  item_faults items.Number value = unless (is_some (number value))
  item_faults items.Text value = unless (is_some (as_str value))
  item_faults (items.Table kind) (table ms) = keys_faults (keys_of kind ms) ms ++ missing (keys_of kind ms) ms
  item_faults (items.Table kind) value = here

  -- the keys that are there
  pub keys_faults : List KeyRule → Members → List Way
  keys_faults keys no_members = []
  keys_faults keys (member name value ms) =
      below (Key name) (value_faults (kind_at keys name) value) ++ keys_faults keys ms

-- a table with these keys
abbrev pub table_faults : List KeyRule → Members → List Way
table_faults keys ms = keys_faults keys ms ++ missing keys ms

-- the document itself
abbrev pub shape_faults : Members → List Way
shape_faults document = table_faults document_keys document
