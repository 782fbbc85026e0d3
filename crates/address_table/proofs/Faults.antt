-- The first fault of places in order.
use Rattle.std.proofs.Common.{◌≡◌, ℕ, ◌+◌, List, [], ◌∷◌, ◌++◌, map, Option, Some, None, option_map, option_and_then}
use Rattle.std.proofs.Common.{slice_get, Ordering, Less, Equal, Greater, nat_cmp, codes, refl, ap, ◌∙◌}
use Rattle.std.specs.List.{filter_map}
use Rattle.std.specs.Option.{option_or, unwrap_or}
use Rattle.std.specs.Ordering.{match_ordering}
use Rattle.std.specs.Cmp.Lexicographic.{slice_cmp}
use Rattle.std.proofs.lemmas.List.Elements.{filter_map-append}
use Rattle.toml.specs.Data.{Data, string, integer, float, boolean, datetime, array, table, Items, no_items, item}
use Rattle.toml.specs.Data.{Members, no_members, member, get_member, as_array}
use Rattle.address_table.specs.Rules.{node_fault, broken_rule}
use Rattle.address_table.specs.Tables.{place_in, children, fault_at, first_fault, preorder, preorder_array}
use Rattle.address_table.specs.Tables.{preorder_children, preorder_items, table_fault, IsNode, node, AreNodes, none}
use Rattle.address_table.specs.Tables.{more, IsTable}
use Rattle.address_table.specs.declared.nodes.Node.{Node}
use Rattle.address_table.specs.declared.nodes.Table.{Table}
use Rattle.address_table.specs.declared.refusal.TableWhy.{TableWhy}

abbrev pub Fault : Type 0
Fault = List ℕ × TableWhy

-- a fault of a child
abbrev pub below_fault : ℕ → Fault → Fault
below_fault i f = (i ∷ f.0, f.1)

first-append : {X : Type 0} (xs ys : List X) → slice_get (xs ++ ys) 0 ≡ option_or (slice_get xs 0) (slice_get ys 0)
first-append [] ys = refl
first-append (x ∷ xs) ys = refl

pub first_fault-append : (format : ℕ) (xs ys : List (List ℕ × Data))
    → first_fault format (xs ++ ys) ≡ option_or (first_fault format xs) (first_fault format ys)
first_fault-append format xs ys =
    ap (λ fs. slice_get fs 0) (filter_map-append (fault_at format) xs ys)
    ∙ first-append (filter_map (fault_at format) xs) (filter_map (fault_at format) ys)

fault-below : (format : ℕ) (i : ℕ) (path : List ℕ) (d : Data) (others : List (List ℕ × Data)) (o : Option TableWhy)
    → node_fault format d ≡ o
    → first_fault format (map (place_in i) others) ≡ option_map (below_fault i) (first_fault format others)
    → first_fault format (map (place_in i) ((path, d) ∷ others))
    ≡ option_map (below_fault i) (first_fault format ((path, d) ∷ others))
fault-below format i path d others None is ih = rw is ih
fault-below format i path d others (Some why) is ih = rw is refl

pub first_fault-below : (format : ℕ) (i : ℕ) (xs : List (List ℕ × Data))
    → first_fault format (map (place_in i) xs) ≡ option_map (below_fault i) (first_fault format xs)
first_fault-below format i [] = refl
first_fault-below format i (x ∷ xs) = fault-below format i x.0 x.1 xs (node_fault format x.1) refl (first_fault-below format i xs)

-- the first fault of a node with those below it
pub first_fault-table : (format : ℕ) (ms : Members) (ps : List (List ℕ × Data)) → broken_rule format ms ≡ None
    → first_fault format (([], table ms) ∷ ps) ≡ first_fault format ps
first_fault-table format ms ps kept = rw kept

-- the first fault of some items: that of the first item, or else that of the others
pub first_fault-item : (format : ℕ) (i : ℕ) (d : Data) (ds : Items)
    → first_fault format (preorder_items i (item d ds))
    ≡ option_or (option_map (below_fault i) (first_fault format (preorder d))) (first_fault format (preorder_items (i + 1) ds))
first_fault-item format i d ds =
    first_fault-append format (map (place_in i) (preorder d)) (preorder_items (i + 1) ds)
    ∙ ap (λ f. option_or f (first_fault format (preorder_items (i + 1) ds))) (first_fault-below format i (preorder d))

preorder_array-items : (d : Data) → preorder_array d ≡ preorder_items 0 (unwrap_or (as_array d) no_items)
preorder_array-items (string s) = refl
preorder_array-items (integer z) = refl
preorder_array-items (float x) = refl
preorder_array-items (boolean b) = refl
preorder_array-items (datetime t) = refl
preorder_array-items (array ds) = refl
preorder_array-items (table ms) = refl

at_nodes : (o : Ordering) (d : Data) (ms : Members) → preorder_children ms ≡ preorder_items 0 (children ms)
    → match_ordering o (preorder_children ms) (preorder_array d) (preorder_children ms)
    ≡ preorder_items 0 (unwrap_or
    (option_and_then as_array
    (match_ordering o (get_member (codes "nodes") ms) (Some d) (get_member (codes "nodes") ms))) no_items)
at_nodes Less d ms ih = ih
at_nodes Equal d ms ih = preorder_array-items d
at_nodes Greater d ms ih = ih

-- what is below a node is what is below its children
pub preorder_children-items : (ms : Members) → preorder_children ms ≡ preorder_items 0 (children ms)
preorder_children-items no_members = refl
preorder_children-items (member key d ms) =
    at_nodes (slice_cmp nat_cmp (codes "nodes") key) d ms (preorder_children-items ms)

pub first_fault-node : (format : ℕ) (ms : Members) → broken_rule format ms ≡ None
    → first_fault format (preorder (table ms)) ≡ first_fault format (preorder_items 0 (children ms))
first_fault-node format ms kept =
    first_fault-table format ms (preorder_children ms) kept ∙ ap (first_fault format) (preorder_children-items ms)

mutual
  pub node-faultless : (format : ℕ) (d : Data) (n : Node) → IsNode format d n → first_fault format (preorder d) ≡ None
  node-faultless format d n (node ms m kept says are) = first_fault-node format ms kept ∙ nodes-faultless format 0 (children ms) _ are

  -- nodes have no fault
  pub nodes-faultless : (format : ℕ) (i : ℕ) (ds : Items) (ns : List Node) → AreNodes format ds ns
      → first_fault format (preorder_items i ds) ≡ None
  nodes-faultless format i ds ns none = refl
  nodes-faultless format i ds ns (more d n es ms one others) =
      first_fault-item format i d es ∙ rw (node-faultless format d n one) (nodes-faultless format (i + 1) es ms others)

pub table-faultless : (format : ℕ) (d : Data) (t : Table) → IsTable format d t → table_fault format d ≡ None
table-faultless format (array ds) t are = nodes-faultless format 0 ds t.nodes.items are
table-faultless format (string s) t h = absurd h
table-faultless format (integer z) t h = absurd h
table-faultless format (float x) t h = absurd h
table-faultless format (boolean b) t h = absurd h
table-faultless format (datetime dt) t h = absurd h
table-faultless format (table ms) t h = absurd h

pub ruleset no_fault = (table-faultless)
