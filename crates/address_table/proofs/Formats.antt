-- Whatever is a table in format 1 is that table in format 2.
use Rattle.std.proofs.Common.{◌≡◌, List, ◌∷◌, Bool, true, false, ◌||◌, ◌&&◌, None, drop, refl}
use Rattle.std.proofs.lemmas.Bool.{and_parts, or_left}
use Rattle.toml.specs.Data.{Data, string, integer, float, boolean, datetime, array, table, Items, Members, no_members}
use Rattle.toml.specs.Data.{member}
use Rattle.address_table.specs.Keys.{is_common_key, is_node_key, has_node_keys}
use Rattle.address_table.specs.Rules.{broken_rule, rules, has_shape}
use Rattle.address_table.specs.Tables.{IsNode, node, AreNodes, none, more, IsTable}
use Rattle.address_table.specs.declared.nodes.Node.{Node}
use Rattle.address_table.specs.declared.nodes.Table.{Table}
use Rattle.address_table.specs.declared.refusal.TableWhy.TheVariants.{Shape, UnknownKey}
use Rattle.address_table.proofs.Kept.{first_kept}

common : (b : Bool) → (b || false) ≡ true → b ≡ true
common true h = refl
common false h = h

both : (a b : Bool) → a ≡ true → b ≡ true → (a && b) ≡ true
both true b h k = k
both false b h k = h

keys-more : (ms : Members) → has_node_keys 1 ms ≡ true → has_node_keys 2 ms ≡ true
keys-more no_members h = refl
keys-more (member key value rest) h =
    let (here, later) = and_parts (is_node_key 1 key) (has_node_keys 1 rest) h in
    both (is_node_key 2 key) (has_node_keys 2 rest)
    (or_left (is_common_key key) _ (common (is_common_key key) here)) (keys-more rest later)

rules-more : (ms : Members) → broken_rule 1 ms ≡ None → broken_rule 2 ms ≡ None
unfolding broken_rule
rules-more ms kept =
    let rest = drop 2 (rules 1 ms) in
    let (shape, later) = first_kept Shape (has_shape ms) ((UnknownKey, has_node_keys 1 ms) ∷ rest) kept in
    let (keys, others) = first_kept UnknownKey (has_node_keys 1 ms) rest later in
    rw (shape, keys-more ms keys) others

mutual
  node-more : (d : Data) (n : Node) → IsNode 1 d n → IsNode 2 d n
  node-more d n (node ms m kept says are) = node ms m (rules-more ms kept) says (nodes-more _ _ are)

  nodes-more : (ds : Items) (ns : List Node) → AreNodes 1 ds ns → AreNodes 2 ds ns
  nodes-more ds ns none = none
  nodes-more ds ns (more d n es ms one others) = more d n es ms (node-more d n one) (nodes-more es ms others)

pub table-more : (value : Data) (t : Table) → IsTable 1 value t → IsTable 2 value t
table-more (array ds) t are = nodes-more ds t.nodes.items are
table-more (string s) t h = absurd h
table-more (integer z) t h = absurd h
table-more (float x) t h = absurd h
table-more (boolean b) t h = absurd h
table-more (datetime dt) t h = absurd h
table-more (table ms) t h = absurd h
