-- The nodes of a table in the order of a walk, each index of a node before its children there, and the first that
-- breaks a rule. Profile.
use Rattle.std.specs.Prelude.{◌≡◌, ◌⊎◌, ℕ, zero, suc, ◌+◌, ◌^◌, Bool, not, ◌&&◌, ◌==◌, nat_lt, nat_le, List, [], ◌∷◌}
use Rattle.std.specs.Prelude.{◌++◌, codes, Option, Some, None}
use Rattle.std.specs.List.{list_any}
use Rattle.std.specs.Str.{bytes_eq}
use Rattle.address_table.specs.Rules.{first_broken}
use Rattle.address_table.specs.declared.nodes.Node.{Node, out-Node}
use Rattle.node_tree.specs.Limits.{most_nodes, most_ids}
use Rattle.node_tree.specs.declared.register.Register.{Register}
use Rattle.node_tree.specs.declared.refusal.CompileWhy.{CompileWhy}
use Rattle.node_tree.specs.declared.refusal.CompileWhy.TheVariants.{TooMany, TooDeep, Duplicate, AddressPastEnd}
pub use Rattle.node_tree.specs.Addresses.{words_of, last_address}
use Rattle.node_tree.specs.Maps.{Name, TableMap, nodes_of}
use Rattle.node_tree.specs.Names.{children_of, last_index, plain_name, name_at, address_at, register_at}

-- An index of a node where the walk comes to it: its name, the number of ids in the name, whether this is the first
-- index and an earlier sibling has the node's id, and its register. `twin` is the first name that another node of the
-- same id would have here, if it had a count where this one has none, or none where this one has a count.
pub record Visit : Type 0 where
  pub name : Name
  pub twin : Name
  pub level : ℕ
  pub repeated : Bool
  pub register : Register

-- one of the nodes has the id
abbrev pub has_id : Name → List Node → Bool
has_id id ns = list_any (λ n. bytes_eq (out-Node n).id id) ns

-- the first index in brackets where the other has no count, and no index where the other has one
abbrev pub twin_text : Option ℕ → Name
twin_text None = codes "[0]"
twin_text (Some count) = []

-- an index of a node of a level, below a name and an address, after its earlier siblings
abbrev pub visit_of : ℕ → Name → ℕ → List Node → Node → ℕ → Visit
visit_of level above base earlier n i = record {
  name = name_at above n i;
  twin = plain_name above n ++ twin_text (out-Node n).count;
  level = level;
  repeated = (i == 0) && has_id (out-Node n).id earlier;
  register = register_at base n i;
}

-- how the walk goes through children below a name and an address
abbrev pub Below : Type 0
Below = Name → ℕ → List Node → List Visit

-- so many indexes of a node from one on, each with what is below it
unfoldable pub indexes : Below → TableMap → ℕ → Name → ℕ → List Node → Node → ℕ → ℕ → List Visit
indexes walk_below tables level above base earlier n i zero = []
indexes walk_below tables level above base earlier n i (suc left) =
    visit_of level above base earlier n i
    ∷ (walk_below (name_at above n i) (address_at base n i) (children_of tables n)
    ++ indexes walk_below tables level above base earlier n (i + 1) left)

-- all indexes of a node, and then its later siblings
unfoldable pub siblings : Below → TableMap → ℕ → Name → ℕ → List Node → List Node → List Visit
siblings walk_below tables level above base earlier [] = []
siblings walk_below tables level above base earlier (n ∷ ns) =
    indexes walk_below tables level above base earlier n 0 (last_index n + 1)
    ++ siblings walk_below tables level above base (earlier ++ n ∷ []) ns

-- Some levels of nodes, of which the first has `level` ids in its names, below a name and an address. Each index of a
-- node comes before its children there, these before the next index, and all of them before later siblings.
unfoldable pub walk : TableMap → ℕ → ℕ → Name → ℕ → List Node → List Visit
walk tables zero level above base ns = []
walk tables (suc levels) level above base ns = siblings (walk tables levels (level + 1)) tables level above base [] ns

-- The walk from a root. A node at the 17th level breaks a rule, so what is below it is not looked at.
abbrev pub root_walk : TableMap → Name → List Visit
root_walk tables root = walk tables (most_ids + 1) 1 [] 0 (nodes_of tables root)

-- the rules for a node that so many nodes come before, each with whether it is kept
abbrev pub visit_rules : ℕ → Visit → List (CompileWhy × Bool)
visit_rules count v =
    (TooMany, nat_lt count most_nodes)
    ∷ (TooDeep, nat_le v.level most_ids)
    ∷ (Duplicate, not v.repeated)
    ∷ (AddressPastEnd, nat_lt (last_address v.register) (2 ^ 32))
    ∷ []

-- the fault of a node, or else that of the rest
abbrev pub fault_or : Visit → Option CompileWhy → Option (Name × CompileWhy) → Option (Name × CompileWhy)
fault_or v None rest = rest
fault_or v (Some why) rest = Some (v.name, why)

-- the first node that breaks a rule, with the rule, among nodes that so many nodes come before
abbrev pub first_fault : ℕ → List Visit → Option (Name × CompileWhy)
first_fault count [] = None
first_fault count (v ∷ vs) = fault_or v (first_broken (visit_rules count v)) (first_fault (count + 1) vs)

-- one of the nodes of a walk has this name and register
abbrev pub Lists : List Visit → Name → Register → Type 0
Lists [] name r = ⊥
Lists (v ∷ vs) name r = ((v.name ≡ name) × (v.register ≡ r)) ⊎ Lists vs name r

-- one of the nodes of a walk is at this level
abbrev pub HasLevel : List Visit → ℕ → Type 0
HasLevel [] level = ⊥
HasLevel (v ∷ vs) level = (v.level ≡ level) ⊎ HasLevel vs level
