use Rattle.std.proofs.Common.{refl}
use Rattle.node_tree.proofs.cycles.ranking.next_table.Goals as goal

pub returns-then-is_new-clause-found : goal.returns-then-is_new-clause-found
returns-then-is_new-clause-found c = c.if-is_new.ensures refl
