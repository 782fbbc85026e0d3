use Rattle.node_tree.proofs.RegisterLemmas.{put-valid}
use Rattle.node_tree.proofs.tables.Tables.put.Goals as goal

pub invariant_of-self : goal.invariant_of-self
invariant_of-self c =
    put-valid c.insert.result _ _ _ _ c.insert.ensures.ok c.insert.ensures.err c.self.invariant c.requires
