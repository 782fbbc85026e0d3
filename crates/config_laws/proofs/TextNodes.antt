-- The tables that the lines of a text of values define, and the values in them.
use Rattle.std.proofs.Common.{◌≡◌, ◌≢◌, ℕ, zero, suc, ◌+◌, ◌<◌, ◌^◌, Bool, true, false, cond, pos, List, [], ◌∷◌, ◌++◌, length}
use Rattle.std.proofs.Common.{map, codes, Some, None, option_and_then, Less, Equal, Greater, Ordering, nat_cmp, nat_lt}
use Rattle.std.proofs.Common.{inl, inr, refl, sym, ap, ◌∙◌, subst, arith}
use Rattle.std.specs.Cmp.Lexicographic.{slice_cmp}
use Rattle.std.specs.List.{AllByRecursion, Contains, filter, flat_map, slice_get}
use Rattle.std.specs.Ordering.{is_eq, match_ordering}
use Rattle.std.proofs.lemmas.Bool.{cases_Bool}
use Rattle.std.proofs.lemmas.Bool.Decides.{nat_tests}
use Rattle.std.proofs.lemmas.Option.{get_or_from_slice_get, same_Some, slice_get_within}
use Rattle.std.proofs.lemmas.Slice.Eq.{bytes_eq-Decides}
use Rattle.world_model.proofs.Lists.{get_front}
use Rattle.toml.specs.Data.{integer, same_key}
use Rattle.toml.specs.Tables.{Expression, Node, Nodes, along_dots, along_header, at_key, close, close_node}
use Rattle.toml.specs.Tables.{define, get_node, header, implicit, insert, key_value, no_nodes, node, open_table}
use Rattle.toml.specs.Tables.{replace, std_table, value}
use Rattle.toml.proofs.NodeLaws.{get_node-insert, get_node-replace}
use Rattle.toml.proofs.ReadLines.{run}
use Rattle.board_specs.specs.declared.spec.BoardSpec.{BoardSpec}
use Rattle.node_tree.specs.Maps.{Name}
use Rattle.script_lang.proofs.TableLists.{same_name}
use Rattle.script_lang.specs.OwnNames.{HaveOwnNames}
use Rattle.board_history.proofs.Lists.{all_at, get_back}
use Rattle.config_store.specs.declared.state.StateEntry.{StateEntry}
use Rattle.config_store.specs.States.{board_entries, boards_entries, entry_of, number_entries, table_entries}
use Rattle.config_laws.specs.ReadBack.{AreApart, CanBeSpelled, IsApartFrom, IsOfSomeBoard}
use Rattle.config_laws.specs.Saved.{is_on}
use Rattle.config_laws.proofs.AppliedValues.{contains}
use Rattle.config_laws.proofs.Whole.{at_place}

-- ---- keys

is_equal : (o : Ordering) → is_eq o ≡ true → o ≡ Equal
is_equal Less h = absurd cc
is_equal Equal h = refl
is_equal Greater h = absurd cc

key_same : (k l : List ℕ) → same_key k l ≡ true → k ≡ l
key_same k l h = same_name k l (is_equal (slice_cmp nat_cmp k l) h)

key_differs : (k l : List ℕ) → k ≢ l → same_key k l ≡ false
key_differs k l differ = elim (cases_Bool (same_key k l)) [
  | inl same ↦ absurd (differ (key_same k l same))
  | inr other ↦ other
]

-- what other keys hold is as before
insert_at : (k l m : List ℕ) (x y : Node) (ns : Nodes) (o : Ordering) → slice_cmp nat_cmp k m ≡ o → k ≢ l
    → get_node l (insert k x ns) ≡ get_node l ns
    → get_node l (match_ordering o (node k x (node m y ns)) (node m x ns) (node m y (insert k x ns)))
    ≡ get_node l (node m y ns)
insert_at k l m x y ns Less is differ rest =
    rw (key_differs l k (λ e. differ (sym e))) refl
insert_at k l m x y ns Equal is differ rest =
    let same : k ≡ m = same_name k m is in
    let other : same_key l m ≡ false = key_differs l m (λ e. differ (same ∙ sym e)) in
    rw other refl
insert_at k l m x y ns Greater is differ rest = elim (cases_Bool (same_key l m)) [
  | inl same ↦ rw same refl
  | inr other ↦ rw other rest
]

insert_other : (k l : List ℕ) (x : Node) (ns : Nodes) → k ≢ l → get_node l (insert k x ns) ≡ get_node l ns
insert_other k l x no_nodes differ = rw (key_differs l k (λ e. differ (sym e))) refl
insert_other k l x (node m y ns) differ =
    insert_at k l m x y ns (slice_cmp nat_cmp k m) refl differ (insert_other k l x ns differ)

replace_other : (k l : List ℕ) (x : Node) (ns : Nodes) → k ≢ l → get_node l (replace k x ns) ≡ get_node l ns
replace_other k l x no_nodes differ = refl
replace_other k l x (node m y ns) differ = elim (cases_Bool (same_key k m)) [
  | inl same ↦
      let other : same_key l m ≡ false = key_differs l m (λ e. differ (key_same k m same ∙ sym e)) in
      rw (same, other) refl
  | inr apart ↦ elim (cases_Bool (same_key l m)) [
    | inl same ↦ rw (apart, same) refl
    | inr other ↦ rw (apart, other) (replace_other k l x ns differ)
  ]
]

-- ---- one line

abbrev pub state_key : List ℕ
state_key = codes "state"

abbrev pub rooted : Nodes → Nodes
rooted ns = node state_key (open_table implicit ns) no_nodes

abbrev pub path_of : Name → List (List ℕ)
path_of board = state_key ∷ board ∷ []

abbrev pub board_line : Name → Expression
board_line board = ((state_key ∷ [], board), std_table)

abbrev pub value_line : StateEntry → Expression
value_line e = (([], e.name), key_value (integer (pos e.value)))

abbrev held : StateEntry → Node
held e = value (integer (pos e.value))

first_header : (board : Name) → define (no_nodes, []) (board_line board)
    ≡ Some (rooted (insert board (open_table header no_nodes) no_nodes), path_of board)
unfolding define along_header at_key
first_header board = refl

step_header : (ns : Nodes) (path : List (List ℕ)) (board : Name) → get_node board ns ≡ None
    → define (rooted ns, path) (board_line board)
    ≡ Some (rooted (insert board (open_table header no_nodes) ns), path_of board)
unfolding define along_header at_key
step_header ns path board new = rw new refl

step_value : (ns ms : Nodes) (board : Name) (e : StateEntry) → get_node board ns ≡ Some (open_table header ms)
    → get_node e.name ms ≡ None
    → define (rooted ns, path_of board) (value_line e)
    ≡ Some (rooted (replace board (open_table header (insert e.name (held e) ms)) ns), path_of board)
unfolding define along_header along_dots at_key
step_value ns ms board e there new = rw (there, new) refl

-- ---- the lines of a board

abbrev OwnNames : List StateEntry → Type 0
OwnNames [] = Unit {0}
OwnNames (e ∷ es) = AllByRecursion (λ (o : StateEntry). e.name ≢ o.name) es × OwnNames es

-- the table of a board after lines of values
record BoardRun (board : Name) (ns ms : Nodes) (entries : List StateEntry) : Type 0 where
  nodes : Nodes
  table' : Nodes
  runs : (es : List Expression)
      → run (rooted ns, path_of board) (map value_line entries ++ es) ≡ run (rooted nodes, path_of board) es
  there : get_node board nodes ≡ Some (open_table header table')
  each : AllByRecursion (λ (e : StateEntry). get_node e.name table' ≡ Some (held e)) entries
  kept : (k : List ℕ) (x : Node) → get_node k ms ≡ Some x → get_node k table' ≡ Some x
  others : (k : List ℕ) → board ≢ k → get_node k nodes ≡ get_node k ns

still_new : (name : Name) (x : Node) (ms : Nodes) (entries : List StateEntry)
    → AllByRecursion (λ (o : StateEntry). name ≢ o.name) entries
    → AllByRecursion (λ (o : StateEntry). get_node o.name ms ≡ None) entries
    → AllByRecursion (λ (o : StateEntry). get_node o.name (insert name x ms) ≡ None) entries
still_new name x ms [] apart new = tt
still_new name x ms (o ∷ entries) apart new =
    (insert_other name o.name x ms apart.0 ∙ new.0, still_new name x ms entries apart.1 new.1)

values_run : (board : Name) (ns ms : Nodes) (entries : List StateEntry) → get_node board ns ≡ Some (open_table header ms)
    → AllByRecursion (λ (e : StateEntry). get_node e.name ms ≡ None) entries → OwnNames entries
    → BoardRun board ns ms entries
values_run board ns ms [] there new own = record {
  nodes = ns;
  table' = ms;
  runs = λ es. refl;
  there = there;
  each = tt;
  kept = λ k x is. is;
  others = λ k differ. refl;
}
values_run board ns ms (e ∷ entries) there new own =
    let more = insert e.name (held e) ms in
    let next = replace board (open_table header more) ns in
    let rest = values_run board next more entries (get_node-replace board (open_table header more) ns (open_table header ms) there)
    (still_new e.name (held e) ms entries own.0 new.1) own.1 in
    record {
      nodes = rest.nodes;
      table' = rest.table';
      runs = λ es.
          ap (option_and_then (λ doc. run doc (map value_line entries ++ es))) (step_value ns ms board e there new.0)
          ∙ rest.runs es;
      there = rest.there;
      each = (rest.kept e.name (held e) (get_node-insert e.name (held e) ms), rest.each);
      kept = λ k x is.
          rest.kept k x (insert_other e.name k (held e) ms
          (λ same.
          let both : None ≡ Some x = sym new.0 ∙ ap (λ n. get_node n ms) same ∙ is in absurd cc)
          ∙ is);
      others = λ k differ. rest.others k differ ∙ replace_other board k (open_table header more) ns differ;
    }

-- ---- the lines of all boards

abbrev pub board_lines : List StateEntry → BoardSpec → List Expression
board_lines entries spec = board_line spec.name ∷ map value_line (filter (is_on spec.name) entries)

abbrev pub all_lines : List StateEntry → List BoardSpec → List Expression
all_lines entries specs = flat_map (board_lines entries) specs

-- the board's table has its values
record HasValues (entries : List StateEntry) (nodes : Nodes) (spec : BoardSpec) : Type 0 where
  table' : Nodes
  there : get_node spec.name nodes ≡ Some (open_table header table')
  each : AllByRecursion (λ (e : StateEntry). get_node e.name table' ≡ Some (held e)) (filter (is_on spec.name) entries)

record AllRun (entries : List StateEntry) (specs : List BoardSpec) (ns : Nodes) (path : List (List ℕ)) : Type 0 where
  nodes : Nodes
  last : List (List ℕ)
  runs : run (rooted ns, path) (all_lines entries specs) ≡ Some (rooted nodes, last)
  each : AllByRecursion (HasValues entries nodes) specs
  kept : (k : List ℕ) (x : Node) → get_node k ns ≡ Some x → get_node k nodes ≡ Some x

is_on_board : (board : Name) (e : StateEntry) → is_on board e ≡ true → e.board ≡ board
is_on_board board e h = (bytes_eq-Decides e.board board).0 h

apart_names : (board : Name) (e : StateEntry) (es : List StateEntry) → e.board ≡ board
    → AllByRecursion (IsApartFrom e) es
    → AllByRecursion (λ (o : StateEntry). e.name ≢ o.name) (filter (is_on board) es)
apart_names board e [] on apart = tt
apart_names board e (o ∷ es) on apart = elim (cases_Bool (is_on board o)) [
  | inl here ↦
      rw here ((λ same. apart.0.differ (on ∙ sym (is_on_board board o here)) same), apart_names board e es on apart.1)
  | inr away ↦ rw away (apart_names board e es on apart.1)
]

own_names : (board : Name) (entries : List StateEntry) → AreApart entries → OwnNames (filter (is_on board) entries)
own_names board [] apart = tt
own_names board (e ∷ entries) apart = elim (cases_Bool (is_on board e)) [
  | inl here ↦
      rw here (apart_names board e entries (is_on_board board e here) apart.0, own_names board entries apart.1)
  | inr away ↦ rw away (own_names board entries apart.1)
]

none_there : (entries : List StateEntry) → AllByRecursion (λ (e : StateEntry). get_node e.name no_nodes ≡ None) entries
none_there [] = tt
none_there (e ∷ entries) = (refl, none_there entries)

abbrev pub BoardsApart : List BoardSpec → Type 0
BoardsApart [] = Unit {0}
BoardsApart (s ∷ specs) = AllByRecursion (λ (o : BoardSpec). s.name ≢ o.name) specs × BoardsApart specs

new_boards : (name : Name) (ns nodes : Nodes) (specs : List BoardSpec)
    → ((k : List ℕ) → name ≢ k → get_node k nodes ≡ get_node k ns)
    → AllByRecursion (λ (o : BoardSpec). name ≢ o.name) specs
    → AllByRecursion (λ (o : BoardSpec). get_node o.name ns ≡ None) specs
    → AllByRecursion (λ (o : BoardSpec). get_node o.name nodes ≡ None) specs
new_boards name ns nodes [] others apart new = tt
new_boards name ns nodes (o ∷ specs) others apart new =
    (others o.name apart.0 ∙ new.0, new_boards name ns nodes specs others apart.1 new.1)

boards_run : (entries : List StateEntry) → AreApart entries → (specs : List BoardSpec) (ns : Nodes)
    (path : List (List ℕ)) → BoardsApart specs
    → AllByRecursion (λ (o : BoardSpec). get_node o.name ns ≡ None) specs → AllRun entries specs ns path
boards_run entries apart [] ns path own new =
    record { nodes = ns; last = path; runs = refl; each = tt; kept = λ k x is. is }
boards_run entries apart (s ∷ specs) ns path own new =
    let mine = filter (is_on s.name) entries in
    let next = insert s.name (open_table header no_nodes) ns in
    let values = values_run s.name next no_nodes mine (get_node-insert s.name (open_table header no_nodes) ns)
    (none_there mine) (own_names s.name entries apart) in
    let others : (k : List ℕ) → s.name ≢ k → get_node k values.nodes ≡ get_node k ns =
    λ k differ. values.others k differ ∙ insert_other s.name k (open_table header no_nodes) ns differ in
    let rest = boards_run entries apart specs values.nodes (path_of s.name) own.1
    (new_boards s.name ns values.nodes specs others own.0 new.1) in
    record {
      nodes = rest.nodes;
      last = rest.last;
      runs = ap (option_and_then (λ doc. run doc (map value_line mine ++ all_lines entries specs)))
          (step_header ns path s.name new.0)
          ∙ values.runs (all_lines entries specs) ∙ rest.runs;
      each = (
        record {
          table' = values.table';
          there = rest.kept s.name (open_table header values.table') values.there;
          each = values.each;
        },
        rest.each,
      );
      kept = λ k x is.
          rest.kept k x (others k
          (λ same.
          let both : None ≡ Some x = sym new.0 ∙ ap (λ n. get_node n ns) same ∙ is in absurd cc)
          ∙ is);
    }

-- ---- the values that are read

contains_front : {T : Type 0} (xs ys : List T) (x : T) → Contains xs x → Contains (xs ++ ys) x
contains_front xs ys x has =
    let at = at_place xs x has in contains (xs ++ ys) at.0 x (get_front xs ys at.0 x at.1)

contains_back : {T : Type 0} (xs ys : List T) (y : T) → Contains ys y → Contains (xs ++ ys) y
contains_back xs ys y has =
    let at = at_place ys y has in contains (xs ++ ys) (length xs + at.0) y (get_back xs ys at.0 y at.1)

number_there : (board name : Name) (n : ℕ) → n < 2 ^ 32
    → number_entries board name (integer (pos n)) ≡ entry_of board name n ∷ []
number_there board name n small =
    let within : nat_lt n (2 ^ 32) ≡ true = grind (arith, nat_tests) in
    rw within refl

value_at : (ms : Nodes) (x : Node) (l board name : Name) (n : ℕ) (test : Bool) → n < 2 ^ 32 → same_key name l ≡ test
    → cond test (Some x) (get_node name ms) ≡ Some (value (integer (pos n)))
    → (get_node name ms ≡ Some (value (integer (pos n)))
    → Contains (board_entries board (close ms)) (entry_of board name n))
    → Contains (number_entries board l (close_node x) ++ board_entries board (close ms)) (entry_of board name n)
value_at ms x l board name n true small same is later =
    let it : x ≡ value (integer (pos n)) = same_Some x (value (integer (pos n))) is in
    let found : number_entries board l (close_node x) ≡ entry_of board name n ∷ [] =
    ap (λ (y : Node). number_entries board l (close_node y)) it ∙ number_there board l n small
    ∙ ap (λ (k : Name). entry_of board k n ∷ []) (sym (key_same name l same)) in
    subst (λ (front : List StateEntry). Contains (front ++ board_entries board (close ms)) (entry_of board name n))
    (sym found) (contains (entry_of board name n ∷ board_entries board (close ms)) 0 (entry_of board name n) refl)
value_at ms x l board name n false small other is later =
    contains_back (number_entries board l (close_node x)) (board_entries board (close ms)) (entry_of board name n) (later is)

in_board : (ms : Nodes) (board name : Name) (n : ℕ) → n < 2 ^ 32 → get_node name ms ≡ Some (value (integer (pos n)))
    → Contains (board_entries board (close ms)) (entry_of board name n)
in_board no_nodes board name n small there = absurd cc
in_board (node l x ms) board name n small there =
    value_at ms x l board name n (same_key name l) small refl there (λ is. in_board ms board name n small is)

board_at : (ns ms : Nodes) (x : Node) (l board name : Name) (n : ℕ) (test : Bool) → same_key board l ≡ test
    → cond test (Some x) (get_node board ns) ≡ Some (open_table header ms)
    → Contains (board_entries board (close ms)) (entry_of board name n)
    → (get_node board ns ≡ Some (open_table header ms) → Contains (boards_entries (close ns)) (entry_of board name n))
    → Contains (boards_entries (close (node l x ns))) (entry_of board name n)
board_at ns ms x l board name n true same is here later =
    let it : x ≡ open_table header ms = same_Some x (open_table header ms) is in
    subst (λ (y : Node). Contains (boards_entries (close (node l y ns))) (entry_of board name n)) (sym it)
    (contains_front (board_entries l (close ms)) (boards_entries (close ns)) (entry_of board name n)
    (subst (λ (k : Name). Contains (board_entries k (close ms)) (entry_of board name n)) (key_same board l same) here))
board_at ns ms x l board name n false other is here later =
    contains_back (table_entries l (close_node x)) (boards_entries (close ns)) (entry_of board name n) (later is)

in_boards : (ns ms : Nodes) (board name : Name) (n : ℕ) → n < 2 ^ 32 → get_node board ns ≡ Some (open_table header ms)
    → get_node name ms ≡ Some (value (integer (pos n)))
    → Contains (boards_entries (close ns)) (entry_of board name n)
in_boards no_nodes ms board name n small there has = absurd cc
in_boards (node l x ns) ms board name n small there has =
    board_at ns ms x l board name n (same_key board l) refl there (in_board ms board name n small has)
    (λ is. in_boards ns ms board name n small is has)

first_at : (P : StateEntry → Type 0) (board : Name) (x : StateEntry) (entries : List StateEntry) (test : Bool)
    → is_on board x ≡ test
    → AllByRecursion P (cond test (x ∷ filter (is_on board) entries) (filter (is_on board) entries)) → (k : ℕ)
    (e : StateEntry) → slice_get (x ∷ entries) k ≡ Some e → e.board ≡ board
    → (AllByRecursion P (filter (is_on board) entries) → (j : ℕ) → slice_get entries j ≡ Some e → P e) → P e
first_at P board x entries true here all zero e there on later = subst P (same_Some x e there) all.0
first_at P board x entries true here all (suc j) e there on later = later all.1 j there
first_at P board x entries false away all zero e there on later =
    let same : is_on board x ≡ true =
    (bytes_eq-Decides x.board board).1 (ap (λ (y : StateEntry). y.board) (same_Some x e there) ∙ on) in
    let both : true ≡ false = sym same ∙ away in absurd cc
first_at P board x entries false away all (suc j) e there on later = later all j there

filter_at : (P : StateEntry → Type 0) (board : Name) (entries : List StateEntry)
    → AllByRecursion P (filter (is_on board) entries) → (k : ℕ) (e : StateEntry) → slice_get entries k ≡ Some e
    → e.board ≡ board → P e
filter_at P board [] all k e at on = absurd cc
filter_at P board (x ∷ entries) all k e at on =
    first_at P board x entries (is_on board x) refl all k e at on (λ rest j there. filter_at P board entries rest j e there on)

each_found : (specs : List BoardSpec) (entries : List StateEntry) (nodes : Nodes)
    → AllByRecursion (HasValues entries nodes) specs → (some : List StateEntry)
    → ((k : ℕ) (e : StateEntry) → slice_get some k ≡ Some e → (j : ℕ) × (slice_get entries j ≡ Some e))
    → AllByRecursion CanBeSpelled some → AllByRecursion (IsOfSomeBoard specs) some
    → AllByRecursion (λ (e : StateEntry). Contains (boards_entries (close nodes)) e) some
each_found specs entries nodes has [] among spelled on = tt
each_found specs entries nodes has (e ∷ some) among spelled on =
    let is = on.0 in
    let at = among zero e refl in
    let of_board = all_at (HasValues entries nodes) specs is.place is.spec has is.there in
    let has_value = filter_at (λ (x : StateEntry). get_node x.name of_board.table' ≡ Some (value (integer (pos x.value))))
    is.spec.name entries of_board.each at.0 e at.1 (sym is.called) in
    let found = in_boards nodes of_board.table' is.spec.name e.name e.value spelled.0.word of_board.there has_value in (
      subst (λ (b : Name). Contains (boards_entries (close nodes)) (entry_of b e.name e.value)) is.called found,
      each_found specs entries nodes has some (λ k x there. among (suc k) x there) spelled.1 on.1,
    )

-- ---- the whole

pub record IsDefined (specs : List BoardSpec) (entries : List StateEntry) : Type 0 where
  pub nodes : Nodes
  pub last : List (List ℕ)
  pub runs : run (no_nodes, []) (all_lines entries specs) ≡ Some (rooted nodes, last)
  pub each : AllByRecursion (λ (e : StateEntry). Contains (boards_entries (close nodes)) e) entries

own_each : (s : BoardSpec) (specs : List BoardSpec) → HaveOwnNames (s ∷ specs) → (some : List BoardSpec)
    → ((k : ℕ) (o : BoardSpec) → slice_get some k ≡ Some o → (j : ℕ) × (slice_get specs j ≡ Some o))
    → AllByRecursion (λ (o : BoardSpec). s.name ≢ o.name) some
own_each s specs own [] among = tt
own_each s specs own (o ∷ some) among =
    let at = among zero o refl in
    let within = slice_get_within specs at.0 o at.1 in (
      (λ same.
          own zero (suc at.0) s (omega arith) (omega (arith, within))
          (same ∙ sym (ap (λ (x : BoardSpec). x.name) (get_or_from_slice_get specs at.0 o s at.1)))),
      own_each s specs own some (λ k x there. among (suc k) x there),
    )

pub boards_apart : (specs : List BoardSpec) → HaveOwnNames specs → BoardsApart specs
boards_apart [] own = tt
boards_apart (s ∷ specs) own = (
  own_each s specs own specs (λ k o at. (k, at)),
  boards_apart specs (λ i j d less within. own (suc i) (suc j) d (omega (arith, less)) (omega (arith, within))),
)

no_boards : (specs : List BoardSpec) → AllByRecursion (λ (o : BoardSpec). get_node o.name no_nodes ≡ None) specs
no_boards [] = tt
no_boards (s ∷ specs) = (refl, no_boards specs)

pub all_defined : (specs : List BoardSpec) (entries : List StateEntry) → 0 < length specs → HaveOwnNames specs
    → AreApart entries → AllByRecursion CanBeSpelled entries → AllByRecursion (IsOfSomeBoard specs) entries
    → IsDefined specs entries
all_defined [] entries some own apart spelled on = absurd (omega (arith, some))
all_defined (s ∷ specs) entries some own apart spelled on =
    let all = boards_run entries apart (s ∷ specs) no_nodes [] (boards_apart (s ∷ specs) own) (no_boards (s ∷ specs)) in
    let behind = map value_line (filter (is_on s.name) entries) ++ all_lines entries specs in
    record {
      nodes = all.nodes;
      last = all.last;
      runs = ap (option_and_then (λ doc. run doc behind)) (first_header s.name ∙ sym (step_header no_nodes [] s.name refl))
          ∙ all.runs;
      each = each_found (s ∷ specs) entries all.nodes all.each entries (λ k e at. (k, at)) spelled on;
    }
