use Rattle.node_tree.proofs.overlapping.settling.+settle.Given as goal

-- the levels that are left
abbrev pub decreases-settle : goal.decreases-settle
decreases-settle l = l.level
