use Rattle.node_tree.proofs.PairLemmas.{share-have, have-share}
use Rattle.node_tree.proofs.overlap_laws.registers_share_an_address_that_both_have.Goals as goal

pub returns : goal.returns
returns c = λ a b p q. (share-have a b p q, λ (x, here, there). have-share a b x here there)
