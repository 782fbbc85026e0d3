use Rattle.node_tree.proofs.Uniqueness.{not_refused}
use Rattle.node_tree.proofs.laws.tables_that_keep_the_rules_are_not_refused.Goals as goal

pub returns : goal.returns
returns c = not_refused
