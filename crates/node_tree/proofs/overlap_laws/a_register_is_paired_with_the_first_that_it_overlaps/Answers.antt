use Rattle.std.proofs.Common.{[], arith}
use Rattle.node_tree.proofs.PairLemmas.{pairs-are, pairs-have, second-rises}
use Rattle.node_tree.proofs.overlap_laws.a_register_is_paired_with_the_first_that_it_overlaps.Goals as goal

pub returns-clause-pairs : goal.returns-clause-pairs
returns-clause-pairs c =
    λ es a b. (λ there. (pairs-are [] es a b there).0, λ first. pairs-have [] es a b first (omega arith))

pub returns-clause-rising : goal.returns-clause-rising
returns-clause-rising c = second-rises
