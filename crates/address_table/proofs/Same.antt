-- A value is at most one table, whatever the formats.
use Rattle.std.proofs.Common.{◌≡◌, ℕ, List, [], ◌∷◌, Option, Some}
use Rattle.toml.specs.Data.{Data, string, integer, float, boolean, datetime, array, table, Items, no_items, item}
use Rattle.toml.specs.Data.{Members}
use Rattle.address_table.specs.Tables.{SaysKeys, children, IsNode, node, AreNodes, none, more, IsTable, SameKeys}
use Rattle.address_table.specs.Tables.{SameNodes, neither, both, SameTable}
use Rattle.address_table.specs.declared.nodes.Node.{Node, out-Node}
use Rattle.address_table.specs.declared.nodes.Table.{Table}

one_value : {X : Type 0} (o : Option X) (x y : X) → o ≡ Some x → o ≡ Some y → x ≡ y
one_value o x y a b = cc

same-keys : (ms : Members) (n m : Node) → SaysKeys ms n → SaysKeys ms m → SameKeys n m
same-keys ms n m a b = record {
  id = one_value _ _ _ a.id b.id;
  address = one_value _ _ _ a.address b.address;
  mask = one_value _ _ _ a.mask b.mask;
  permission = one_value _ _ _ a.permission b.permission;
  mode = one_value _ _ _ a.mode b.mode;
  size = one_value _ _ _ a.size b.size;
  count = one_value _ _ _ a.count b.count;
  stride = one_value _ _ _ a.stride b.stride;
  «module» = one_value _ _ _ a.«module» b.«module»;
  tags = one_value _ _ _ a.tags b.tags;
  description = one_value _ _ _ a.description b.description;
}

-- a node, by the value that it is written as
abbrev AsNode : ℕ → Data → Node → Type 0
AsNode format (table ms) n = SaysKeys ms n × AreNodes format (children ms) (out-Node n).nodes.items
AsNode format _ n = ⊥

as_node : (format : ℕ) (d : Data) (n : Node) → IsNode format d n → AsNode format d n
as_node format d n (node ms m kept says are) = (says, are)

abbrev AsNodes : ℕ → Items → List Node → Type 0
AsNodes format no_items [] = Unit {0}
AsNodes format no_items (n ∷ ns) = ⊥
AsNodes format (item d ds) [] = ⊥
AsNodes format (item d ds) (n ∷ ns) = IsNode format d n × AreNodes format ds ns

as_nodes : (format : ℕ) (ds : Items) (ns : List Node) → AreNodes format ds ns → AsNodes format ds ns
as_nodes format ds ns none = tt
as_nodes format ds ns (more d n es ms one others) = (one, others)

no_more : (format : ℕ) (ms : List Node) → AsNodes format no_items ms → SameNodes [] ms
no_more format [] h = neither
no_more format (m ∷ ms) h = absurd h

abbrev SameNode : Node → Node → Type 0
SameNode n m = SameKeys n m × SameNodes (out-Node n).nodes.items (out-Node m).nodes.items

more_both : (format : ℕ) (d : Data) (n : Node) (ds : Items) (ns ms : List Node)
    → ((m : Node) → IsNode format d m → SameNode n m)
    → ((ks : List Node) → AreNodes format ds ks → SameNodes ns ks)
    → AsNodes format (item d ds) ms → SameNodes (n ∷ ns) ms
more_both format d n ds ns [] first others h = absurd h
more_both format d n ds ns (m ∷ ms) first others h =
    let (keys, below) = first m h.0 in both n m ns ms keys below (others ms h.1)

-- what keys say does not depend on the format
module _ (format second : ℕ) where
  mutual
    one_node : (d : Data) (n m : Node) → IsNode format d n → IsNode second d m → SameNode n m
    one_node d n m (node ms k kept says are) other =
        let (says_too, are_too) = as_node second (table ms) m other in (
          same-keys ms k m says says_too,
          one_list (children ms) (out-Node k).nodes.items (out-Node m).nodes.items are are_too,
        )

    one_list : (ds : Items) (ns ms : List Node) → AreNodes format ds ns → AreNodes second ds ms → SameNodes ns ms
    one_list ds ns ms none other = no_more second ms (as_nodes second no_items ms other)
    one_list ds ns ms (more d n es ks one others) other =
        more_both second d n es ks ms (λ m is. one_node d n m one is) (λ js are. one_list es ks js others are)
        (as_nodes second (item d es) ms other)

pub one_table : (format second : ℕ) (value : Data) (t u : Table) → IsTable format value t → IsTable second value u
    → SameTable t u
one_table format second (array ds) t u a b = one_list format second ds t.nodes.items u.nodes.items a b
one_table format second (string s) t u a b = absurd a
one_table format second (integer z) t u a b = absurd a
one_table format second (float x) t u a b = absurd a
one_table format second (boolean b) t u a c = absurd a
one_table format second (datetime dt) t u a b = absurd a
one_table format second (table ms) t u a b = absurd a
