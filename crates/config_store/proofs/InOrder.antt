-- The values of a document are in order.
use Rattle.std.proofs.Common.{◌≡◌, ℕ, List, [], ◌∷◌, ◌++◌, String, Global, string_bytes, Option, Some, None, option_map}
use Rattle.std.proofs.Common.{Less, Equal, nat_cmp, refl}
use Rattle.std.specs.Cmp.Lexicographic.{slice_cmp}
use Rattle.std.specs.List.{AllByRecursion}
use Rattle.std.specs.List.Sorted.{IsStrictlySortedBy}
use Rattle.std.specs.Option.{option_map_or, option_to_list}
use Rattle.std.specs.String.{string_cmp}
use Rattle.std.specs.Cmp.{tied_itself}
use Rattle.std.proofs.lemmas.Cmp.{nat_list_cmp_total}
use Rattle.address_table.specs.Numbers.{number}
use Rattle.toml.specs.Data.{Data, Members, no_members, member, as_table}
use Rattle.toml.specs.View.{view, members_view}
use Rattle.toml.specs.declared.value.Value.{Value}
use Rattle.script_lang.proofs.TableLists.{names_of}
use Rattle.node_tree.specs.Maps.{Name}
use Rattle.config_store.specs.declared.state.StateEntry.{StateEntry}
use Rattle.config_store.specs.Order.{AreInOrder, entry_cmp}
use Rattle.config_store.specs.States.{board_entries, boards_entries, entry_of, table_entries}

abbrev pub Entry : Type 0
Entry = String Global × Value

pub same_name : (name : Name) → slice_cmp nat_cmp name name ≡ Equal
same_name name = tied_itself nat_list_cmp_total name

-- ---- the values of one board

-- a value of a name is before those of later names
before_names : (board : Name) (value : ℕ) (k : String Global) (es : List Entry)
    → AllByRecursion (λ y. string_cmp k y ≡ Less) (names_of es)
    → AllByRecursion (λ y. entry_cmp (entry_of board (string_bytes k) value) y ≡ Less) (board_entries board (members_view es))
before_names board value k [] all = tt
before_names board value k (e ∷ es) all = by_number (number (view e.1)) (before_names board value k es all.1)
  where
    by_number : (o : Option ℕ)
        → AllByRecursion (λ y. entry_cmp (entry_of board (string_bytes k) value) y ≡ Less) (board_entries board (members_view es))
        → AllByRecursion (λ y. entry_cmp (entry_of board (string_bytes k) value) y ≡ Less)
        (option_to_list (option_map (entry_of board (string_bytes e.0)) o) ++ board_entries board (members_view es))
    by_number None rest = rest
    by_number (Some n) rest = (rw (same_name board) all.0, rest)

pub board_in_order : (board : Name) (es : List Entry) → IsStrictlySortedBy string_cmp (names_of es)
    → AreInOrder (board_entries board (members_view es))
unfolding IsStrictlySortedBy
board_in_order board [] order = tt
board_in_order board (e ∷ es) order = by_number (number (view e.1)) (board_in_order board es order.1)
  where
    by_number : (o : Option ℕ) → AreInOrder (board_entries board (members_view es))
        → AreInOrder (option_to_list (option_map (entry_of board (string_bytes e.0)) o) ++ board_entries board (members_view es))
    by_number None rest = rest
    by_number (Some n) rest = (before_names board n e.0 es order.0, rest)

-- ---- the values of all boards

OfBoard : Name → StateEntry → Type 0
OfBoard board entry = entry.board ≡ board

all_append : {X : Type 0} (P : X → Type 0) (xs ys : List X) → AllByRecursion P xs → AllByRecursion P ys
    → AllByRecursion P (xs ++ ys)
all_append P [] ys one other = other
all_append P (x ∷ xs) ys one other = (one.0, all_append P xs ys one.1 other)

all_weaker : {X : Type 0} (P Q : X → Type 0) (xs : List X) → ((x : X) → P x → Q x) → AllByRecursion P xs → AllByRecursion Q xs
all_weaker P Q [] leads all = tt
all_weaker P Q (x ∷ xs) leads all = (leads x all.0, all_weaker P Q xs leads all.1)

board_of_all : (board : Name) (ms : Members) → AllByRecursion (OfBoard board) (board_entries board ms)
unfolding OfBoard
board_of_all board no_members = tt
board_of_all board (member name value rest) = by_number (number value) (board_of_all board rest)
  where
    by_number : (o : Option ℕ) → AllByRecursion (λ (e : StateEntry). e.board ≡ board) (board_entries board rest)
        → AllByRecursion (λ (e : StateEntry). e.board ≡ board) (option_to_list (option_map (entry_of board name) o) ++ board_entries board rest)
    by_number None all = all
    by_number (Some n) all = (refl, all)

table_of_all : (board : Name) (value : Data) → AllByRecursion (OfBoard board) (table_entries board value)
table_of_all board value = by_table (as_table value)
  where
    by_table : (o : Option Members) → AllByRecursion (OfBoard board) (option_map_or (board_entries board) o [])
    by_table None = tt
    by_table (Some ms) = board_of_all board ms

-- a value of a board is before those of later boards
before_boards : (entry : StateEntry) (k : String Global) (es : List Entry) → entry.board ≡ string_bytes k
    → AllByRecursion (λ y. string_cmp k y ≡ Less) (names_of es)
    → AllByRecursion (λ y. entry_cmp entry y ≡ Less) (boards_entries (members_view es))
unfolding OfBoard
before_boards entry k [] of all = tt
before_boards entry k (e ∷ es) of all =
    all_append (λ y. entry_cmp entry y ≡ Less) (table_entries (string_bytes e.0) (view e.1)) (boards_entries (members_view es))
    (all_weaker (OfBoard (string_bytes e.0)) (λ y. entry_cmp entry y ≡ Less) (table_entries (string_bytes e.0) (view e.1))
    (λ y at. rw (at, of, all.0) refl) (table_of_all (string_bytes e.0) (view e.1)))
    (before_boards entry k es of all.1)

append_in_order : (xs ys : List StateEntry) → AreInOrder xs → AreInOrder ys
    → AllByRecursion (λ x. AllByRecursion (λ y. entry_cmp x y ≡ Less) ys) xs → AreInOrder (xs ++ ys)
unfolding IsStrictlySortedBy
append_in_order [] ys one other all = other
append_in_order (x ∷ xs) ys one other all =
    (all_append (λ y. entry_cmp x y ≡ Less) xs ys one.0 all.0, append_in_order xs ys one.1 other all.1)

-- the values of a board, and then those of later boards
pub next_board : (k : String Global) (value : Value) (es : List Entry)
    → AllByRecursion (λ y. string_cmp k y ≡ Less) (names_of es)
    → AreInOrder (table_entries (string_bytes k) (view value)) → AreInOrder (boards_entries (members_view es))
    → AreInOrder (boards_entries (members_view ((k, value) ∷ es)))
unfolding OfBoard
next_board k value es later one other =
    append_in_order (table_entries (string_bytes k) (view value)) (boards_entries (members_view es)) one other
    (all_weaker (OfBoard (string_bytes k)) (λ x. AllByRecursion (λ y. entry_cmp x y ≡ Less) (boards_entries (members_view es)))
    (table_entries (string_bytes k) (view value)) (λ x at. before_boards x k es at later)
    (table_of_all (string_bytes k) (view value)))

pub none_in_order : AreInOrder []
unfolding IsStrictlySortedBy
none_in_order = tt
