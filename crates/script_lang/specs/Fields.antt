-- What the values of a table without faults are. A value that is left out has its default.
use Rattle.std.specs.Prelude.{ℕ, List, [], ◌∷◌, Option, Some}
use Rattle.std.specs.List.{filter_map}
use Rattle.std.specs.Option.{unwrap_or, option_and_then, option_map}
use Rattle.toml.specs.Data.{Data, Items, no_items, item, Members, get_member, as_str, as_array, as_table}
use Rattle.ipb_base.specs.Digits.{is_between}
use Rattle.address_table.specs.Numbers.{number}
use Rattle.script_lang.specs.declared.keys.Kind.{Kind}
use Rattle.script_lang.specs.declared.keys.Kind.TheVariants.{Number}
use Rattle.script_lang.specs.Keys.{KeyRule, kind_at}
use Rattle.script_lang.specs.Texts.{checked_value}

-- the number that keeps the rule of its key, or the default
abbrev pub ruled_number : Option Kind → Option Data → ℕ
ruled_number (Some (Number least most default)) value =
    unwrap_or (checked_value (is_between least most) (option_and_then number value)) default
ruled_number _ value = 0

-- the number under a key of a table
abbrev pub number_at : List KeyRule → List ℕ → Members → ℕ
number_at keys name ms = ruled_number (kind_at keys name) (get_member name ms)

-- the text under a key, empty where it is left out
abbrev pub text_at : List ℕ → Members → List ℕ
text_at name ms = unwrap_or (option_and_then as_str (get_member name ms)) []

abbrev pub values : Items → List Data
values no_items = []
values (item value items) = value ∷ values items

-- the items of the array under a key, none where it is left out
abbrev pub items_at : List ℕ → Members → List Data
items_at name ms = values (unwrap_or (option_and_then as_array (get_member name ms)) no_items)

-- the numbers, the texts, and what the tables are, of a list of such items
abbrev pub numbers_in : List Data → List ℕ
numbers_in ds = filter_map number ds

abbrev pub texts_in : List Data → List (List ℕ)
texts_in ds = filter_map as_str ds

abbrev pub tables_in : {A : Type 0} → (Members → A) → List Data → List A
tables_in read ds = filter_map (λ d. option_map read (as_table d)) ds
