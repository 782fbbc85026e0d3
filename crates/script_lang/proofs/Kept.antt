-- What stands under the keys of a table without faults.
use Rattle.std.proofs.Common.{◌≡◌, ℕ, ◌+◌, List, [], ◌∷◌, ◌++◌, length, map, Bool, true, false, Option, Some, None}
use Rattle.std.proofs.Common.{Ordering, Less, Equal, Greater, nat_cmp, refl, subst, arith}
use Rattle.std.specs.Ordering.{match_ordering}
use Rattle.std.specs.Cmp.Lexicographic.{slice_cmp}
use Rattle.std.specs.List.{AllByRecursion}
use Rattle.toml.specs.Data.{Data, string, integer, float, boolean, datetime, array, table, Items, no_items, item}
use Rattle.toml.specs.Data.{Members, no_members, member, get_member}
use Rattle.script_lang.specs.declared.keys.ItemKind.{ItemKind}
use Rattle.script_lang.specs.declared.keys.ItemKind.TheVariants as items
use Rattle.script_lang.specs.declared.keys.Kind.TheVariants.{Array}
use Rattle.script_lang.specs.declared.keys.TableKind.{TableKind}
use Rattle.script_lang.specs.declared.steps.PathStep.TheVariants.{Key, Item}
use Rattle.script_lang.specs.Fields.{values, items_at, tables_in}
use Rattle.script_lang.specs.Keys.{KeyRule, keys_of, kind_at}
use Rattle.script_lang.specs.Walk.{below, unless, value_faults, items_faults, item_faults, keys_faults, table_faults}
use Rattle.script_lang.proofs.TableLists.{same_name}

-- lists that are empty when put together
pub parts_none : {A : Type 0} (xs ys : List A) → xs ++ ys ≡ [] → (xs ≡ []) × (ys ≡ [])
parts_none [] ys h = (refl, h)
parts_none (x ∷ xs) ys h = cc

pub mapped_none : {A B : Type 0} (f : A → B) (xs : List A) → map f xs ≡ [] → xs ≡ []
mapped_none f [] h = refl
mapped_none f (x ∷ xs) h = cc

pub no_fault : (test : Bool) → unless test ≡ [] → test ≡ true
no_fault true h = refl
no_fault false h = cc

same_some : {A : Type 0} (x y : A) → Some x ≡ Some y → x ≡ y
same_some x y h = cc

at_key : (keys : List KeyRule) (name key : List ℕ) (d value : Data) (rest : Option Data) (o : Ordering)
    → slice_cmp nat_cmp name key ≡ o
    → value_faults (kind_at keys key) d ≡ [] → (rest ≡ Some value → value_faults (kind_at keys name) value ≡ [])
    → match_ordering o rest (Some d) rest ≡ Some value → value_faults (kind_at keys name) value ≡ []
at_key keys name key d value rest Less is here later there = later there
at_key keys name key d value rest Greater is here later there = later there
at_key keys name key d value rest Equal is here later there =
    rw (same_name name key is, ← same_some d value there) here

-- a value under a key has no fault
pub kept_value : (keys : List KeyRule) (name : List ℕ) (ms : Members) (value : Data) → keys_faults keys ms ≡ []
    → get_member name ms ≡ Some value
    → value_faults (kind_at keys name) value ≡ []
kept_value keys name no_members value none there = cc
kept_value keys name (member key d ms) value none there =
    let both = parts_none (below (Key key) (value_faults (kind_at keys key) d)) (keys_faults keys ms) none in
    at_key keys name key d value (get_member name ms) (slice_cmp nat_cmp name key) refl
    (mapped_none (λ way. Key key ∷ way) _ both.0)
    (kept_value keys name ms value both.1) there

-- the items of an array without faults
pub record IsKeptArray (kind : ItemKind) (value : Data) : Type 0 where
  pub inside : Items
  pub is_array : value ≡ array inside
  pub faultless : items_faults kind 0 inside ≡ []

kept_array : (kind : ItemKind) (value : Data) → value_faults (Some (Array kind)) value ≡ [] → IsKeptArray kind value
kept_array kind (array ds) none = record { inside = ds; is_array = refl; faultless = none }
kept_array kind (string s) none = cc
kept_array kind (integer z) none = cc
kept_array kind (float x) none = cc
kept_array kind (boolean b) none = cc
kept_array kind (datetime t) none = cc
kept_array kind (table ms) none = cc

-- what stands under the key of an array
pub record HasKeptItems (kind : ItemKind) (found : List Data) : Type 0 where
  pub inside : Items
  pub same : found ≡ values inside
  pub faultless : items_faults kind 0 inside ≡ []

from_array : (kind : ItemKind) (name : List ℕ) (ms : Members) (value : Data) (ds : Items)
    → get_member name ms ≡ Some value → value ≡ array ds
    → items_faults kind 0 ds ≡ [] → HasKeptItems kind (items_at name ms)
from_array kind name ms value ds is is_array none =
    record { inside = ds; same = rw (is, is_array) refl; faultless = none }

items_there : (keys : List KeyRule) (kind : ItemKind) (name : List ℕ) (ms : Members) (o : Option Data)
    → get_member name ms ≡ o → keys_faults keys ms ≡ []
    → kind_at keys name ≡ Some (Array kind) → HasKeptItems kind (items_at name ms)
items_there keys kind name ms None is none rule = record { inside = no_items; same = rw is refl; faultless = refl }
items_there keys kind name ms (Some value) is none rule =
    let kept =
    kept_array kind value (subst (λ r. value_faults r value ≡ []) rule (kept_value keys name ms value none is)) in
    from_array kind name ms value kept.inside is kept.is_array kept.faultless

pub items_kept : (keys : List KeyRule) (kind : ItemKind) (name : List ℕ) (ms : Members) → keys_faults keys ms ≡ []
    → kind_at keys name ≡ Some (Array kind) → HasKeptItems kind (items_at name ms)
items_kept keys kind name ms none rule = items_there keys kind name ms (get_member name ms) refl none rule

record IsKeptTable (kind : TableKind) (value : Data) : Type 0 where
  inside : Members
  is_table : value ≡ table inside
  faultless : table_faults (keys_of kind inside) inside ≡ []

kept_table : (kind : TableKind) (value : Data) → item_faults (items.Table kind) value ≡ [] → IsKeptTable kind value
kept_table kind (table ms) none = record { inside = ms; is_table = refl; faultless = none }
kept_table kind (string s) none = cc
kept_table kind (integer z) none = cc
kept_table kind (float x) none = cc
kept_table kind (boolean b) none = cc
kept_table kind (datetime t) none = cc
kept_table kind (array ds) none = cc

module _ {A : Type 0} (kind : TableKind) (read : Members → A) (P : A → Type 0)
    (holds : (ms : Members) → table_faults (keys_of kind ms) ms ≡ [] → P (read ms)) where
  -- what is read of each table has the property, and each item is read
  pub each_table : (i : ℕ) (ds : Items) → items_faults (items.Table kind) i ds ≡ []
      → AllByRecursion P (tables_in read (values ds)) × (length (tables_in read (values ds)) ≡ length (values ds))
  each_table i no_items none = (tt, refl)
  each_table i (item d ds) none =
      let both =
      parts_none (below (Item i) (item_faults (items.Table kind) d))
      (items_faults (items.Table kind) (i + 1) ds) none in
      let kept = kept_table kind d (mapped_none (λ way. Item i ∷ way) _ both.0) in
      let rest = each_table (i + 1) ds both.1 in
      rw kept.is_table ((holds kept.inside kept.faultless, rest.0), omega arith)
