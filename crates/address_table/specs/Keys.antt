-- The keys of a node (uHAL, in TOML's spelling. Profile): the kind of value that each has, and what it says left out.
use Rattle.std.specs.Prelude.{ℕ, Bool, true, ◌&&◌, ◌||◌, ◌==◌, List, [], ◌∷◌, codes, Option, Some, None, option_map}
use Rattle.std.specs.Prelude.{option_and_then}
use Rattle.std.specs.Option.{option_map_or}
use Rattle.toml.specs.Data.{Data, Items, no_items, Members, no_members, member, get_member, as_str, as_array}
use Rattle.address_table.specs.Numbers.{number}
use Rattle.address_table.specs.Kinds.{is_one_of, permission_named, mode_named}
use Rattle.address_table.specs.declared.kinds.Permission.{Permission}
use Rattle.address_table.specs.declared.kinds.Permission.TheVariants.{Rw}
use Rattle.address_table.specs.declared.kinds.Mode.{Mode}
use Rattle.address_table.specs.declared.kinds.Mode.TheVariants.{Single}

-- the keys that a node may have in each format
abbrev pub is_common_key : List ℕ → Bool
is_common_key key =
    is_one_of (
    codes "id" ∷ codes "address" ∷ codes "mask" ∷ codes "permission" ∷ codes "mode"
    ∷ codes "size" ∷ codes "module" ∷ codes "tags" ∷ codes "description" ∷ codes "nodes" ∷ []
    ) key

-- the keys of an array of nodes
abbrev pub is_array_key : List ℕ → Bool
is_array_key key = is_one_of (codes "count" ∷ codes "stride" ∷ []) key

-- the keys that a node may have in a format
abbrev pub is_node_key : ℕ → List ℕ → Bool
is_node_key format key = is_common_key key || (format == 2 && is_array_key key)

abbrev pub has_node_keys : ℕ → Members → Bool
has_node_keys format no_members = true
has_node_keys format (member key value rest) = is_node_key format key && has_node_keys format rest

-- What the value at a key is by a way of reading, or the default where the key is left out. `None` where the value
-- cannot be read so.
abbrev pub at_key : {T : Type 0} → List ℕ → T → (Data → Option T) → Members → Option T
at_key key default read ms = option_map_or read (get_member key ms) (Some default)

-- a text, empty where it is left out
abbrev pub text_at : List ℕ → Members → Option (List ℕ)
text_at key ms = at_key key [] as_str ms

abbrev pub address_at : Members → Option ℕ
address_at ms = at_key (codes "address") 0 number ms

abbrev pub mask_at : Members → Option ℕ
mask_at ms = at_key (codes "mask") 0xffffffff number ms

abbrev pub size_at : Members → Option ℕ
size_at ms = at_key (codes "size") 1 number ms

abbrev pub some_number : Data → Option (Option ℕ)
some_number value = option_map Some (number value)

-- how many registers the node names, if it says so
abbrev pub count_at : Members → Option (Option ℕ)
count_at ms = at_key (codes "count") None some_number ms

-- the words from one of them to the next
abbrev pub stride_at : Members → Option ℕ
stride_at ms = at_key (codes "stride") 1 number ms

abbrev pub permission_in : Data → Option Permission
permission_in value = option_and_then permission_named (as_str value)

abbrev pub permission_at : Members → Option Permission
permission_at ms = at_key (codes "permission") Rw permission_in ms

abbrev pub mode_in : Data → Option Mode
mode_in value = option_and_then mode_named (as_str value)

abbrev pub mode_at : Members → Option Mode
mode_at ms = at_key (codes "mode") Single mode_in ms

abbrev pub some_text : Data → Option (Option (List ℕ))
some_text value = option_map Some (as_str value)

-- the table whose nodes are the children, if there is one
abbrev pub module_at : Members → Option (Option (List ℕ))
module_at ms = at_key (codes "module") None some_text ms

-- the children that stand in the node itself
abbrev pub nodes_at : Members → Option Items
nodes_at ms = at_key (codes "nodes") no_items as_array ms
