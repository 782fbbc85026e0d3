-- The lines that scripts of a generated session would have, and the register table that these lines are about. Profile.
use Rattle.std.specs.Prelude.{◌≡◌, ℕ, zero, suc, List, [], ◌∷◌, map, codes, None}
use Rattle.address_table.specs.declared.nodes.Node.{Node, out-Node}
use Rattle.address_table.specs.declared.kinds.Mode.TheVariants.{Single}
use Rattle.node_tree.specs.Examples.{full_register}
use Rattle.node_tree.specs.Maps.{Name, TableMap, nodes_of}
use Rattle.node_tree.specs.Names.{children_of, register_at}
use Rattle.load_run.specs.Generated.{shares}

-- the lines of so many operations of a client, each with a dispatch
abbrev pub lines_of : ℕ → List (List ℕ)
lines_of zero = []
lines_of (suc more) = codes "rmwsum b0:count 1" ∷ codes "dispatch" ∷ lines_of more

-- the scripts of the four clients
abbrev pub scripts : ℕ → List (List (List ℕ))
scripts count = map lines_of (shares count)

-- the name of the table of the board
abbrev pub table_name : Name
table_name = codes "main"

-- The table has one node, `count` at address 0, without a count of indexes and with nothing below it: a whole word that
-- may be read and written.
pub record HasCountAlone (tables : TableMap) : Type 0 where
  pub node : Node
  pub one : nodes_of tables table_name ≡ node ∷ []
  pub id' : (out-Node node).id ≡ codes "count"
  pub no_indexes : (out-Node node).count ≡ None
  pub register' : register_at 0 node 0 ≡ full_register 0 Single 1
  pub nothing_below : children_of tables node ≡ []
