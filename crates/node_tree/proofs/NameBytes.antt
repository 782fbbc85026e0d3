-- Each byte of the name of a register passes a test that the bytes of ids and of digits pass, and so do the dot and the
-- two brackets between these.
use Rattle.std.proofs.Common.{◌≡◌, ℕ, ◌-◌, ◌<◌, ◌≤◌, ◌^◌, List, [], ◌∷◌, ◌++◌, Bool, true}
use Rattle.std.proofs.Common.{Option, Some, None, IfSome, codes, length, refl, ap, ◌∙◌, arith}
use Rattle.std.specs.Char.{digit_value}
use Rattle.std.specs.FinMap.{get}
use Rattle.std.specs.Fmt.{decimal}
use Rattle.std.specs.List.{list_all}
use Rattle.std.specs.Option.{option_map_or}
use Rattle.std.specs.Str.Parse.{AllDigits}
use Rattle.std.proofs.lemmas.Bool.{and_from, and_parts}
use Rattle.std.proofs.lemmas.Fmt.{decimal_is_IsNumeral}
use Rattle.std.proofs.lemmas.List.Folds.{list_all-append}
use Rattle.ipb_base.specs.Digits.{is_between}
use Rattle.address_table.specs.Limits.{longest_id, most_indexes}
use Rattle.address_table.specs.Rules.{is_id, is_id_byte}
use Rattle.address_table.specs.Valid.{AreValid, IsValidNode}
use Rattle.address_table.specs.declared.nodes.Node.{Node, out-Node}
use Rattle.node_tree.specs.Maps.{AreValidTables, Name, nodes_of, RegisterMap, TableMap}
use Rattle.node_tree.specs.Names.{address_at, child, children_of, index_text, IsIndexOf, itself, last_index, later}
use Rattle.node_tree.specs.Names.{name_at, name_below, Names, plain_name}
use Rattle.node_tree.specs.declared.register.Register.{Register}
use Rattle.node_tree.proofs.NodeLemmas.{children_if, named_nodes, parts}

small_index : (count : Option ℕ) (n : Node) (i : ℕ) → (out-Node n).count ≡ count → IfSome count (λ c. c ≤ most_indexes)
    → i ≤ last_index n → i < 2 ^ 64
small_index None n i is few within =
    let last : last_index n ≡ 0 = ap (λ o. option_map_or (λ count. count - 1) o 0) is in omega arith
small_index (Some c) n i is few within =
    let last : last_index n ≡ c - 1 = ap (λ o. option_map_or (λ count. count - 1) o 0) is in omega arith

module _ (passes : ℕ → Bool) (of_id : (byte : ℕ) → is_id_byte byte ≡ true → passes byte ≡ true) where
  id_bytes_pass : (text : List ℕ) → list_all is_id_byte text ≡ true → list_all passes text ≡ true
  id_bytes_pass [] all = refl
  id_bytes_pass (byte ∷ text) all =
      let both = and_parts (is_id_byte byte) (list_all is_id_byte text) all in
      and_from (passes byte) (list_all passes text) (of_id byte both.0) (id_bytes_pass text both.1)

  pub id_passes : (text : List ℕ) → is_id text ≡ true → list_all passes text ≡ true
  id_passes text is =
      id_bytes_pass text (and_parts (is_between 1 longest_id (length text)) (list_all is_id_byte text) is).1

  module _ (of_digit : (byte : ℕ) → digit_value byte < 10 → passes byte ≡ true) (dot : passes 46 ≡ true)
      (opening : passes 91 ≡ true) (closing : passes 93 ≡ true) where
    both_pass : (xs ys : List ℕ) → list_all passes xs ≡ true → list_all passes ys ≡ true
        → list_all passes (xs ++ ys) ≡ true
    both_pass xs ys one other =
        list_all-append passes xs ys ∙ and_from (list_all passes xs) (list_all passes ys) one other

    digits_pass : (digits : List ℕ) → AllDigits 10 digits → list_all passes digits ≡ true
    digits_pass [] all = refl
    digits_pass (digit ∷ digits) all =
        and_from (passes digit) (list_all passes digits) (of_digit digit all.0) (digits_pass digits all.1)

    index_passes : (count : Option ℕ) (i : ℕ) → i < 2 ^ 64 → list_all passes (index_text count i) ≡ true
    index_passes None i small = refl
    index_passes (Some count) i small =
        and_from (passes 91) (list_all passes (decimal i ++ codes "]")) opening
        (both_pass (decimal i) (codes "]") (digits_pass (decimal i) (decimal_is_IsNumeral i small).0.1)
        (and_from (passes 93) true closing refl))

    below_passes : (above id : Name) → list_all passes above ≡ true → list_all passes id ≡ true
        → list_all passes (name_below above id) ≡ true
    below_passes [] id one other = other
    below_passes (byte ∷ bytes) id one other =
        both_pass (byte ∷ bytes) (46 ∷ id) one (and_from (passes 46) (list_all passes id) dot other)

    at_passes : (above : Name) (n : Node) (i : ℕ) → IsValidNode n → list_all passes above ≡ true → i ≤ last_index n
        → list_all passes (name_at above n i) ≡ true
    at_passes above n i valid one within =
        both_pass (plain_name above n) (index_text (out-Node n).count i)
        (below_passes above (out-Node n).id one (id_passes (out-Node n).id valid.named))
        (index_passes (out-Node n).count i (small_index (out-Node n).count n i refl valid.indexes.few_indexes within))

    name_passes : (tables : TableMap) → AreValidTables tables
        → (ns : List Node) (above : Name) (base : ℕ) (name : Name) (r : Register)
        → AreValid ns → list_all passes above ≡ true → Names tables ns above base name r
        → list_all passes name ≡ true
    name_passes tables valid ms above base name r are one (itself n ns above' base' i within) =
        at_passes above' n i (parts (n ∷ ns) are).0 one within
    name_passes tables valid ms above base name r are one (child n ns above' base' i name' r' within named) =
        let (here, below, others) = parts (n ∷ ns) are in
        name_passes tables valid (children_of tables n) (name_at above' n i) (address_at base' n i) name' r'
        (children_if tables valid (out-Node n).«module» (out-Node n).nodes.items below)
        (at_passes above' n i here one within) named
    name_passes tables valid ms above base name r are one (later n ns above' base' name' r' named) =
        let (here, below, others) = parts (n ∷ ns) are in
        name_passes tables valid ns above' base' name' r' others one named

    pub register_passes : (tables : TableMap) (root : Name) (index : RegisterMap) (name : Name) (r : Register)
        → AreValidTables tables → IsIndexOf tables root index → get index name ≡ Some r → list_all passes name ≡ true
    register_passes tables root index name r valid is there =
        name_passes tables valid (nodes_of tables root) [] 0 name r (named_nodes tables valid root) refl
        ((is name r).0 there)
