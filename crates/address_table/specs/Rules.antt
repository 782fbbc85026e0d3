-- The rules that a node keeps, in the order in which they are judged. Profile; the modes and what they take are uHAL's.
use Rattle.std.specs.Prelude.{ℕ, Bool, true, false, not, ◌&&◌, ◌||◌, ◌==◌, if◌then◌else◌, List, [], ◌∷◌, length}
use Rattle.std.specs.Prelude.{codes, Option, Some, None, is_some, nat_le}
use Rattle.std.specs.List.{list_all}
use Rattle.std.specs.Option.{option_map_or}
use Rattle.toml.specs.Data.{Data, table, Members, get_member}
use Rattle.ipb_base.specs.Digits.{is_between}
use Rattle.address_table.specs.Keys.{has_node_keys, text_at, address_at, mask_at, size_at, permission_at, mode_at}
use Rattle.address_table.specs.Keys.{nodes_at, count_at, stride_at}
use Rattle.address_table.specs.Limits.{longest_id, most_words, most_indexes}
use Rattle.address_table.specs.declared.kinds.Mode.{Mode}
use Rattle.address_table.specs.declared.kinds.Mode.TheVariants.{Single, Block, Port, Hierarchical}
use Rattle.address_table.specs.declared.refusal.TableWhy.{TableWhy}
use Rattle.address_table.specs.declared.refusal.TableWhy.TheVariants.{Shape, UnknownKey, MissingId, BadId, BadNumber}
use Rattle.address_table.specs.declared.refusal.TableWhy.TheVariants.{BadMask, BadPermission, BadMode, BadSize, BadCount}

-- a letter, a digit, `_` or `-`
abbrev pub is_id_byte : ℕ → Bool
is_id_byte byte =
    (is_between 65 90 byte || is_between 97 122 byte) || (is_between 48 57 byte || (byte == 95 || byte == 45))

-- 1 to `longest_id` of these: the name of a node, a table or a board
abbrev pub is_id : List ℕ → Bool
is_id text = is_between 1 longest_id (length text) && list_all is_id_byte text

-- there is a value, and it passes the test
abbrev pub holds_of : {T : Type 0} → (T → Bool) → Option T → Bool
holds_of test value = option_map_or test value false

abbrev pub has_key : List ℕ → Members → Bool
has_key key ms = is_some (get_member key ms)

-- each key that has a text has one
unfoldable pub has_texts : Members → Bool
has_texts ms =
    list_all (λ key. is_some (text_at key ms))
    (codes "id" ∷ codes "permission" ∷ codes "mode" ∷ codes "module" ∷ codes "tags" ∷ codes "description" ∷ [])

-- each key that has a text or an array has one, and `module` does not stand beside `nodes`
unfoldable pub has_shape : Members → Bool
has_shape ms =
    (has_texts ms && is_some (nodes_at ms)) && not (has_key (codes "module") ms && has_key (codes "nodes") ms)

abbrev pub has_numbers : Members → Bool
has_numbers ms =
    ((is_some (address_at ms) && is_some (mask_at ms)) && is_some (size_at ms))
    && (is_some (count_at ms) && is_some (stride_at ms))

-- only whole words go in blocks and through ports
abbrev pub takes_mask : Mode → ℕ → Bool
takes_mask Block mask = mask == 0xffffffff
takes_mask Port mask = mask == 0xffffffff
takes_mask Single mask = true
takes_mask Hierarchical mask = true

-- the words of a register of this mode
abbrev pub takes_size : Mode → ℕ → Bool
takes_size Block size = is_between 1 most_words size
takes_size Port size = is_between 1 most_words size
takes_size Single size = size == 1
takes_size Hierarchical size = size == 1

-- a number of registers is from 1 to `most_indexes`, where one is said
abbrev pub takes_count : Option ℕ → Bool
takes_count count = option_map_or (is_between 1 most_indexes) count true

-- a count that is said is in its range, and a stride is at least 1, and said only where a count is
unfoldable pub has_count : Members → Bool
has_count ms =
    holds_of takes_count (count_at ms)
    && (holds_of (nat_le 1) (stride_at ms) && (has_key (codes "count") ms || not (has_key (codes "stride") ms)))

-- a test of the mode with a number
abbrev pub mode_takes : (Mode → ℕ → Bool) → Option ℕ → Members → Bool
mode_takes takes number ms = holds_of (λ mode. holds_of (takes mode) number) (mode_at ms)

-- the rules on what a node says of its register, each with whether it is kept
abbrev pub register_rules : Members → List (TableWhy × Bool)
register_rules ms =
    (BadNumber, has_numbers ms)
    ∷ (BadMask, holds_of (λ mask. not (mask == 0)) (mask_at ms))
    ∷ (BadPermission, is_some (permission_at ms))
    ∷ (BadMode, mode_takes takes_mask (mask_at ms) ms)
    ∷ (BadSize, mode_takes takes_size (size_at ms) ms)
    ∷ (BadCount, has_count ms)
    ∷ []

-- all rules of a format, in order
abbrev pub rules : ℕ → Members → List (TableWhy × Bool)
rules format ms =
    (Shape, has_shape ms)
    ∷ (UnknownKey, has_node_keys format ms)
    ∷ (MissingId, has_key (codes "id") ms)
    ∷ (BadId, holds_of is_id (text_at (codes "id") ms))
    ∷ register_rules ms

-- the first rule that is not kept
abbrev pub first_broken : {Why : Type 0} → List (Why × Bool) → Option Why
first_broken [] = None
first_broken (rule ∷ rest) = if rule.1 then first_broken rest else Some rule.0

-- the first rule of a format that a node breaks, its children left aside
unfoldable pub broken_rule : ℕ → Members → Option TableWhy
broken_rule format ms = first_broken (rules format ms)

-- the same for any value in the place of a node
abbrev pub node_fault : ℕ → Data → Option TableWhy
node_fault format (table ms) = broken_rule format ms
node_fault format _ = Some Shape
