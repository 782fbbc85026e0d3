use Rattle.mtu_packer.proofs.Unique.{packing_unique, packed_unique}
use Rattle.mtu_packer.proofs.laws.a_packing_is_the_only_one.Goals as goal

pub returns-clause-parts : goal.returns-clause-parts
returns-clause-parts c = packing_unique

pub returns-clause-contents : goal.returns-clause-contents
returns-clause-contents c = packed_unique
