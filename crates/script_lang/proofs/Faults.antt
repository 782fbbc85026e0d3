-- The first of some faults, in lists that are put together.
use Rattle.std.proofs.Common.{◌≡◌, ℕ, zero, suc, ◌+◌, ◌<◌, ◌≤◌, List, [], ◌∷◌, ◌++◌, slice_get, String, Global}
use Rattle.std.proofs.Common.{string_bytes, false, length, drop, get_or, Some, ap, sym, ◌∙◌, subst, arith}
use Rattle.toml.specs.Data.{Data, string, integer, float, boolean, datetime, array, table, Items, item, Members}
use Rattle.toml.specs.Data.{as_table, as_array, depth, items_depth}
use Rattle.toml.specs.View.{view, items_view, members_view}
use Rattle.toml.specs.declared.value.Value.{Value}
use Rattle.toml.proofs.Views.{items_view-drop}
use Rattle.script_lang.specs.declared.keys.ItemKind.{ItemKind}
use Rattle.script_lang.specs.declared.steps.Misfit.{Misfit}
use Rattle.script_lang.specs.declared.steps.Misfit.TheVariants.{At, NoMemory}
use Rattle.script_lang.specs.declared.steps.PathStep.TheVariants.{Item, Key}
use Rattle.address_table.specs.Rules.{is_id}
use Rattle.script_lang.specs.Keys.{KeyRule, kind_at}
use Rattle.script_lang.specs.Walk.{Way, below, here, unless, items_faults, item_faults, names_faults, keys_faults}
use Rattle.script_lang.specs.Walk.{value_faults}
use Rattle.script_lang.specs.Reading.{TellsFirst}

-- what is first in the front is first in the whole
pub first-front : (xs ys : List Way) (m : Misfit) → TellsFirst xs m → TellsFirst (xs ++ ys) m
first-front xs ys NoMemory h = tt
first-front [] ys (At way) h = cc
first-front (x ∷ xs) ys (At way) h = h

pub is_table : (d : Data) (ms : Members) → Some ms ≡ as_table d → d ≡ table ms
is_table (string s) ms h = cc
is_table (integer z) ms h = cc
is_table (float x) ms h = cc
is_table (boolean b) ms h = cc
is_table (datetime t) ms h = cc
is_table (array ds) ms h = cc
is_table (table es) ms h = cc

pub is_array : (d : Data) (ds : Items) → Some ds ≡ as_array d → d ≡ array ds
is_array (string s) ds h = cc
is_array (integer z) ds h = cc
is_array (float x) ds h = cc
is_array (boolean b) ds h = cc
is_array (datetime t) ds h = cc
is_array (array es) ds h = cc
is_array (table ms) ds h = cc

-- the faults from an item on
pub from_item : (kind : ItemKind) (vs : List Value) (i : ℕ) (v : Value) → i < length vs → v ≡ get_or vs i v
    → items_faults kind i (items_view (drop i vs)) ≡ below (Item i) (item_faults kind (view v))
    ++ items_faults kind (i + 1) (items_view (drop (i + 1) vs))
from_item kind vs i v within here =
    ap (λ ds. items_faults kind i ds) (items_view-drop vs i v within)
    ∙ ap (λ w. items_faults kind i (item (view w) (items_view (drop (i + 1) vs)))) (sym here)

-- what is first in an item is first from it on
pub first-item : (kind : ItemKind) (vs : List Value) (i : ℕ) (v : Value) (m : Misfit) → i < length vs
    → v ≡ get_or vs i v
    → TellsFirst (below (Item i) (item_faults kind (view v))) m
    → TellsFirst (items_faults kind i (items_view (drop i vs))) m
first-item kind vs i v m within here h =
    subst (λ ways. TellsFirst ways m) (sym (from_item kind vs i v within here)) (first-front _ _ m h)

-- an item is no deeper than all of them
depth-at : (vs : List Value) (i : ℕ) (d : Value) → i < length vs
    → depth (view (get_or vs i d)) ≤ items_depth (items_view vs)
depth-at [] i d h = absurd (omega arith)
depth-at (v ∷ vs) zero d h = omega arith
depth-at (v ∷ vs) (suc i) d h =
    let rest : depth (view (get_or vs i d)) ≤ items_depth (items_view vs) = depth-at vs i d (omega arith) in omega arith

pub depth-item : (vs : List Value) (i : ℕ) (v : Value) → i < length vs → v ≡ get_or vs i v
    → depth (view v) ≤ items_depth (items_view vs)
depth-item vs i v within here =
    subst (λ w. depth (view w) ≤ items_depth (items_view vs)) (sym here) (depth-at vs i v within)

-- lists with one first fault
pub same-first : (xs ys : List Way) (m : Misfit) → slice_get xs 0 ≡ slice_get ys 0 → TellsFirst xs m → TellsFirst ys m
same-first xs ys NoMemory same h = tt
same-first xs ys (At way) same h = sym same ∙ h

-- a key that is no id is first among the keys from it on
pub first-name : (name : String Global) (v : Value) (rest : List (String Global × Value)) (m : Misfit)
    → is_id (string_bytes name) ≡ false
    → TellsFirst (below (Key (string_bytes name)) here) m
    → TellsFirst (names_faults (members_view ((name, v) ∷ rest))) m
first-name name v rest m bad h =
    first-front (below (Key (string_bytes name)) (unless (is_id (string_bytes name))))
    (names_faults (members_view rest)) m (rw bad h)

-- what is first under a key is first among the keys from it on
pub first-key : (keys : List KeyRule) (name : String Global) (v : Value) (rest : List (String Global × Value))
    (m : Misfit)
    → TellsFirst (below (Key (string_bytes name)) (value_faults (kind_at keys (string_bytes name)) (view v))) m
    → TellsFirst (keys_faults keys (members_view ((name, v) ∷ rest))) m
first-key keys name v rest m h =
    first-front (below (Key (string_bytes name)) (value_faults (kind_at keys (string_bytes name)) (view v)))
    (keys_faults keys (members_view rest)) m h
