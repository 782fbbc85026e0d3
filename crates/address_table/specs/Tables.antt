-- Tables of nodes (uHAL, in TOML's spelling. Profile): the value that a table is written as, and the first fault of a
-- value that is no table.
use Rattle.std.specs.Prelude.{◌≡◌, ℕ, ◌+◌, List, [], ◌∷◌, ◌++◌, map, codes, Option, Some, None, option_map}
use Rattle.std.specs.Prelude.{option_and_then, unwrap_or, slice_get}
use Rattle.std.specs.List.{filter_map}
use Rattle.std.specs.Ordering.{nat_cmp, match_ordering}
use Rattle.std.specs.Cmp.Lexicographic.{slice_cmp}
use Rattle.toml.specs.Data.{Data, array, table, Items, no_items, item, Members, no_members, member, get_member}
use Rattle.toml.specs.Data.{as_array}
use Rattle.address_table.specs.Keys.{text_at, address_at, mask_at, size_at, permission_at, mode_at, module_at}
use Rattle.address_table.specs.Keys.{count_at, stride_at}
use Rattle.address_table.specs.Rules.{broken_rule, node_fault}
use Rattle.address_table.specs.declared.refusal.TableWhy.{TableWhy}
use Rattle.address_table.specs.declared.refusal.TableWhy.TheVariants.{Shape}
use Rattle.address_table.specs.declared.refusal.TableRefusal.{TableRefusal}
use Rattle.address_table.specs.declared.refusal.TableRefusal.TheVariants.{At, NoMemory}
use Rattle.address_table.specs.declared.nodes.Node.{Node, out-Node}
use Rattle.address_table.specs.declared.nodes.Table.{Table}

-- what the keys of a node say, its children left aside
pub record SaysKeys (ms : Members) (n : Node) : Type 0 where
  pub id : text_at (codes "id") ms ≡ Some (out-Node n).id
  pub address : address_at ms ≡ Some (out-Node n).address
  pub mask : mask_at ms ≡ Some (out-Node n).mask
  pub permission : permission_at ms ≡ Some (out-Node n).permission
  pub mode : mode_at ms ≡ Some (out-Node n).mode
  pub size : size_at ms ≡ Some (out-Node n).size
  pub count : count_at ms ≡ Some (out-Node n).count
  pub stride : stride_at ms ≡ Some (out-Node n).stride
  pub «module» : module_at ms ≡ Some (out-Node n).«module»
  pub tags : text_at (codes "tags") ms ≡ Some (out-Node n).tags
  pub description : text_at (codes "description") ms ≡ Some (out-Node n).description

-- the items that the children are written as
abbrev pub children : Members → Items
children ms = unwrap_or (option_and_then as_array (get_member (codes "nodes") ms)) no_items

mutual
  -- The value is written in a format so that it is this node: it keeps the rules, its keys say what the node has, and
  -- its array of nodes is the node's children.
  pub data IsNode (format : ℕ) : Data → Node → Type 0 where
    node : (ms : Members) (n : Node)
        → broken_rule format ms ≡ None
        → SaysKeys ms n
        → AreNodes format (children ms) (out-Node n).nodes.items
        → IsNode format (table ms) n

  -- the items are these nodes, one for one
  pub data AreNodes (format : ℕ) : Items → List Node → Type 0 where
    none : AreNodes format no_items []
    more : (d : Data) (n : Node) (ds : Items) (ns : List Node)
        → IsNode format d n
        → AreNodes format ds ns
        → AreNodes format (item d ds) (n ∷ ns)

-- the value is written in a format so that it is this table
abbrev pub IsTable : ℕ → Data → Table → Type 0
IsTable format (array ds) t = AreNodes format ds t.nodes.items
IsTable format _ t = ⊥

-- a place in the item at a position
abbrev pub place_in : ℕ → List ℕ × Data → List ℕ × Data
place_in i place = (i ∷ place.0, place.1)

-- All values in the place of nodes, each before its children, with the path from here: the positions that lead to it.
abbrev mutual
  pub preorder : Data → List (List ℕ × Data)
  preorder (table ms) = ([], table ms) ∷ preorder_children ms
  preorder d = ([], d) ∷ []

  -- those in the array at the key `nodes`
  pub preorder_children : Members → List (List ℕ × Data)
  preorder_children no_members = []
  preorder_children (member key d ms) =
      match_ordering (slice_cmp nat_cmp (codes "nodes") key)
      (preorder_children ms) (preorder_array d) (preorder_children ms)

  pub preorder_array : Data → List (List ℕ × Data)
  preorder_array (array ds) = preorder_items 0 ds
  preorder_array _ = []

  -- the items from a position on
  pub preorder_items : ℕ → Items → List (List ℕ × Data)
  preorder_items i no_items = []
  preorder_items i (item d ds) = map (place_in i) (preorder d) ++ preorder_items (i + 1) ds

-- the fault of a place, with its path
abbrev pub fault_at : ℕ → List ℕ × Data → Option (List ℕ × TableWhy)
fault_at format place = option_map (λ why. (place.0, why)) (node_fault format place.1)

-- the first fault of some places
abbrev pub first_fault : ℕ → List (List ℕ × Data) → Option (List ℕ × TableWhy)
first_fault format places = slice_get (filter_map (fault_at format) places) 0

-- a refusal tells this fault, want of memory aside
abbrev pub IsFault : Option (List ℕ × TableWhy) → TableRefusal → Type 0
IsFault fault (At path why) = fault ≡ Some (path, why)
IsFault fault NoMemory = Unit {0}

-- the first faulty node of a value in the place of a table, with the rule of the format that it breaks
abbrev pub table_fault : ℕ → Data → Option (List ℕ × TableWhy)
table_fault format (array ds) = first_fault format (preorder_items 0 ds)
table_fault format _ = Some ([], Shape)

-- What two nodes say, their children left aside, is the same.
pub record SameKeys (n m : Node) : Type 0 where
  pub id : (out-Node n).id ≡ (out-Node m).id
  pub address : (out-Node n).address ≡ (out-Node m).address
  pub mask : (out-Node n).mask ≡ (out-Node m).mask
  pub permission : (out-Node n).permission ≡ (out-Node m).permission
  pub mode : (out-Node n).mode ≡ (out-Node m).mode
  pub size : (out-Node n).size ≡ (out-Node m).size
  pub count : (out-Node n).count ≡ (out-Node m).count
  pub stride : (out-Node n).stride ≡ (out-Node m).stride
  pub «module» : (out-Node n).«module» ≡ (out-Node m).«module»
  pub tags : (out-Node n).tags ≡ (out-Node m).tags
  pub description : (out-Node n).description ≡ (out-Node m).description

-- lists of nodes that are the same one for one, with all that is below them
pub data SameNodes : List Node → List Node → Type 0 where
  neither : SameNodes [] []
  both : (n m : Node) (ns ms : List Node)
      → SameKeys n m
      → SameNodes (out-Node n).nodes.items (out-Node m).nodes.items
      → SameNodes ns ms
      → SameNodes (n ∷ ns) (m ∷ ms)

-- the tables have the same nodes
abbrev pub SameTable : Table → Table → Type 0
SameTable t u = SameNodes t.nodes.items u.nodes.items
