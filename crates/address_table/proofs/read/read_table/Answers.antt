use Rattle.std.proofs.Common.{◌≡◌, Some}
use Rattle.toml.specs.Data.{Data, string, integer, float, boolean, datetime, array, table, Items, as_array}
use Rattle.address_table.proofs.Faults.{nodes-faultless}
use Rattle.address_table.proofs.ValidNodes.{nodes-valid}
use Rattle.address_table.proofs.read.read_table.Goals as goal

is_array : (d : Data) (ds : Items) → Some ds ≡ as_array d → d ≡ array ds
is_array (string s) ds h = cc
is_array (integer z) ds h = cc
is_array (float x) ds h = cc
is_array (boolean b) ds h = cc
is_array (datetime t) ds h = cc
is_array (array es) ds h = cc
is_array (table ms) ds h = cc

pub returns-in_ok-read_nodes-in-Some-clause-accepted : goal.returns-in_ok-read_nodes-in-Some-clause-accepted
returns-in_ok-read_nodes-in-Some-clause-accepted c =
    rw (is_array _ _ c.in-Some.ensures) (nodes-faultless _ 0 _ _ c.in_ok-read_nodes-in-Some.ensures.read)

pub returns-in_ok-read_nodes-in-Some-clause-valid : goal.returns-in_ok-read_nodes-in-Some-clause-valid
returns-in_ok-read_nodes-in-Some-clause-valid c = nodes-valid _ _ _ c.in_ok-read_nodes-in-Some.ensures.read
