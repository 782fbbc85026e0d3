-- What the nodes of a table have, each of which keeps the rules (uHAL for modes; profile).
use Rattle.std.specs.Prelude.{◌≡◌, ◌⊎◌, ◌<◌, ◌≤◌, ℕ, true, List, [], ◌∷◌, Option, None, IfSome}
use Rattle.address_table.specs.Limits.{most_words, most_indexes}
use Rattle.address_table.specs.Rules.{is_id}
use Rattle.address_table.specs.declared.kinds.Mode.{Mode}
use Rattle.address_table.specs.declared.kinds.Mode.TheVariants.{Single, Block, Port, Hierarchical}
use Rattle.address_table.specs.declared.nodes.Node.{Node, out-Node}
use Rattle.address_table.specs.declared.nodes.Table.{Table}

-- The mask and the size of a register of a mode: some bit of a word, all bits where words go whole, at least one word
-- and no more than a block may have, and one word where no others follow it.
pub record FitsMode (mode : Mode) (mask size : ℕ) : Type 0 where
  pub masked : 0 < mask
  pub whole : (mode ≡ Block) ⊎ (mode ≡ Port) → mask ≡ 0xffffffff
  pub some_words : 1 ≤ size
  pub few_words : size ≤ most_words
  pub one_word : (mode ≡ Single) ⊎ (mode ≡ Hierarchical) → size ≡ 1

-- The count and the stride of a node: one register or more and no more than `most_indexes`, if a count is said, at
-- least one word from each to the next, and one word where there is no count.
pub record FitsCount (count : Option ℕ) (stride : ℕ) : Type 0 where
  pub some_indexes : IfSome count (λ c. 1 ≤ c)
  pub few_indexes : IfSome count (λ c. c ≤ most_indexes)
  pub apart : 1 ≤ stride
  pub alone : count ≡ None → stride ≡ 1

-- a node with an id, and with registers that fit its mode and its count, whatever is below it
pub record IsValidNode (n : Node) : Type 0 where
  pub named : is_id (out-Node n).id ≡ true
  pub register : FitsMode (out-Node n).mode (out-Node n).mask (out-Node n).size
  pub indexes : FitsCount (out-Node n).count (out-Node n).stride

-- nodes that are valid with all that is below them
pub data AreValid : List Node → Type 0 where
  no_nodes : AreValid []
  and_node : (n : Node) (ns : List Node)
      → IsValidNode n
      → AreValid (out-Node n).nodes.items
      → AreValid ns
      → AreValid (n ∷ ns)

-- a table of such nodes
abbrev pub IsValid : Table → Type 0
IsValid t = AreValid t.nodes.items
