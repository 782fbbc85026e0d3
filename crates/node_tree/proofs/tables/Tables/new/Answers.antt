use Rattle.std.proofs.Common.{sym, subst}
use Rattle.node_tree.specs.Maps.{AreValidTables}
use Rattle.node_tree.proofs.RegisterLemmas.{empty-valid}
use Rattle.node_tree.proofs.tables.Tables.new.Goals as goal

pub invariant_of-result : goal.invariant_of-result
invariant_of-result c = subst AreValidTables (sym c.new.ensures) empty-valid
