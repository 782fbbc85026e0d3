-- Reading the tables of a document one after another.
use Rattle.std.proofs.Common.{◌≡◌, ℕ, List, [], ◌∷◌, map, String, Global, string_bytes, cond, Option, Some, None, Ordering}
use Rattle.std.proofs.Common.{Less, Equal, Greater, nat_cmp, refl, sym, ap, ◌∙◌}
use Rattle.std.specs.Ordering.{match_ordering, is_eq}
use Rattle.std.specs.Cmp.Lexicographic.{slice_cmp}
use Rattle.std.specs.FinMap.{get, insert, empty, get-insert, get-empty}
use Rattle.std.proofs.lemmas.Cmp.{nat_list_cmp_total}
use Rattle.std.specs.List.{AllByRecursion}
use Rattle.std.specs.List.Sorted.{IsStrictlySortedBy}
use Rattle.std.specs.String.{string_cmp}
use Rattle.std.proofs.lemmas.Map.Text.{is_eq-slice_cmp}
use Rattle.std.proofs.lemmas.Slice.Eq.{bytes_eq-Decides}
use Rattle.toml.specs.Data.{Data, Members, no_members, get_member}
use Rattle.toml.specs.View.{view, members_view}
use Rattle.toml.specs.declared.value.Value.{Value}
use Rattle.address_table.specs.Tables.{IsTable, table_fault}
use Rattle.address_table.specs.declared.nodes.Table.{Table}
use Rattle.node_tree.specs.Maps.{Name, TableMap}
use Rattle.script_lang.specs.Document.{IsTableAt, TellsFault, tables_faults}
use Rattle.script_lang.specs.Reading.{table_fault_list, AreTables}
use Rattle.script_lang.specs.declared.refusal.SessionRefusal.{SessionRefusal}
use Rattle.script_lang.proofs.FaultLists.{front_fault}

abbrev pub Entry : Type 0
Entry = String Global × Value

abbrev pub names_of : List Entry → List (String Global)
names_of es = map (λ e. e.0) es

-- a name that is still to come has its value, any other has its table
abbrev pub pending_at : ℕ → Option Data → Option Data → Option Table → Type 0
pending_at format None found t = IsTableAt format found t
pending_at format (Some d) found t = found ≡ Some d

abbrev pub ArePending : ℕ → Members → Members → TableMap → Type 0
ArePending format rest all tables =
    (name : Name) → pending_at format (get_member name rest) (get_member name all) (get tables name)

pending_first : (format : ℕ) (o : Option Data) → pending_at format o o None
pending_first format None = tt
pending_first format (Some d) = refl

-- before the first table, all are still to come
pub are_pending : (format : ℕ) (all : Members) → ArePending format all all empty
are_pending format all name = rw (get-empty {X = Table} (slice_cmp nat_cmp) name) (pending_first format (get_member name all))

-- after the last, none is
pub none_pending : (format : ℕ) (all : Members) (tables : TableMap) → ArePending format no_members all tables
    → AreTables format all tables
none_pending format all tables pending name = pending name

-- a name before all others is none of them
pub absent : (k : String Global) (es : List Entry) → AllByRecursion (λ y. string_cmp k y ≡ Less) (names_of es)
    → get_member (string_bytes k) (members_view es) ≡ None
absent k [] h = refl
absent k (e ∷ es) h = rw h.0 (absent k es h.1)

next_at : (format : ℕ) (o : Ordering) (rest found : Option Data) (have : Option Table) (d : Data) (t : Table)
    → (o ≡ Equal → rest ≡ None) → IsTable format d t
    → pending_at format (match_ordering o rest (Some d) rest) found have
    → pending_at format rest found (cond (is_eq o) (Some t) have)
next_at format Less rest found have d t last is h = h
next_at format Greater rest found have d t last is h = h
next_at format Equal rest found have d t last is h = rw (last refl, h) is

pub same_name : (name k : Name) → slice_cmp nat_cmp name k ≡ Equal → name ≡ k
same_name name k h = (bytes_eq-Decides name k).0 (sym (is_eq-slice_cmp name k) ∙ ap is_eq h)

-- one more table is read
pub next_pending : (format : ℕ) (k : String Global) (v : Value) (es : List Entry) (all : Members) (tables : TableMap) (t : Table)
    → AllByRecursion (λ y. string_cmp k y ≡ Less) (names_of es) → IsTable format (view v) t
    → ArePending format (members_view ((k, v) ∷ es)) all tables
    → ArePending format (members_view es) all (insert tables (string_bytes k) t)
next_pending format k v es all tables t after is pending name =
    rw (get-insert nat_list_cmp_total tables (string_bytes k) t name)
    (next_at format (slice_cmp nat_cmp name (string_bytes k)) (get_member name (members_view es)) (get_member name all)
    (get tables name) (view v) t
    (λ same. ap (λ n. get_member n (members_view es)) (same_name name (string_bytes k) same) ∙ absent k es after)
    is (pending name))

-- what is first in a table is first from it on
pub first-table : (format : ℕ) (k : String Global) (v : Value) (es : List Entry) (r : SessionRefusal)
    → TellsFault (table_fault_list (string_bytes k) (table_fault format (view v))) r
    → TellsFault (tables_faults format (members_view ((k, v) ∷ es))) r
first-table format k v es r h =
    front_fault (table_fault_list (string_bytes k) (table_fault format (view v))) (tables_faults format (members_view es)) r h

-- past a table without faults there are those of the others
pub past-table : (format : ℕ) (k : String Global) (v : Value) (es : List Entry)
    → table_fault format (view v) ≡ None
    → tables_faults format (members_view ((k, v) ∷ es)) ≡ tables_faults format (members_view es)
past-table format k v es kept = rw kept refl

-- the first of names in order is before the others, which are in order
pub ordered_parts : (k : String Global) (v : Value) (es : List Entry)
    → IsStrictlySortedBy string_cmp (names_of ((k, v) ∷ es))
    → AllByRecursion (λ y. string_cmp k y ≡ Less) (names_of es) × IsStrictlySortedBy string_cmp (names_of es)
unfolding IsStrictlySortedBy
ordered_parts k v es h = h
