use Rattle.mtu_packer.proofs.Function.{packing_is, is_packing, packed_is, is_packed}
use Rattle.mtu_packer.proofs.laws.packing_is_a_function.Goals as goal

pub returns-clause-parts : goal.returns-clause-parts
returns-clause-parts c ops payload parts low = (packing_is ops payload parts low, is_packing ops payload parts low)

pub returns-clause-contents : goal.returns-clause-contents
returns-clause-contents c ops payload contents low =
    (packed_is ops payload contents low, λ is. is_packed ops payload contents low is.0 is.1)
