use Rattle.std.proofs.Common.{[], ◌+◌}
use Rattle.node_tree.specs.Limits.{most_ids}
use Rattle.node_tree.specs.Maps.{nodes_of}
use Rattle.node_tree.proofs.NamesLemmas.{listed-named, named-listed}
use Rattle.node_tree.proofs.laws.a_walk_lists_what_the_root_names.Goals as goal

pub returns-clause-only : goal.returns-clause-only
returns-clause-only c =
    λ tables root name r listed. listed-named tables (most_ids + 1) 1 [] 0 (nodes_of tables root) name r listed

pub returns-clause-all : goal.returns-clause-all
returns-clause-all c =
    λ tables root name r named. named-listed tables most_ids 1 [] 0 (nodes_of tables root) name r named
