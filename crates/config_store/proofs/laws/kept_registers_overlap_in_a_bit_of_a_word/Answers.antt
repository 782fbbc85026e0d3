use Rattle.config_store.proofs.TakenBits.{overlap_shares, shares_overlap}
use Rattle.config_store.proofs.laws.kept_registers_overlap_in_a_bit_of_a_word.Goals as goal

pub returns : goal.returns
returns c index name other r s one also =
    (overlap_shares index name other r s one also, λ (same, some). shares_overlap index name other r s one also same some)
