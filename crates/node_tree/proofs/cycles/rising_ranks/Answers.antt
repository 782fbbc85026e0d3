use Rattle.node_tree.proofs.CycleLemmas.{rising-empty}
use Rattle.node_tree.proofs.cycles.rising_ranks.Goals as goal

pub returns : goal.returns
returns c = rw c.new.ensures (rising-empty c.args.tables.now)
