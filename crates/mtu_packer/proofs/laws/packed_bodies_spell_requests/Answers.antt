use Rattle.mtu_packer.proofs.Standing.{bodies_spell}
use Rattle.mtu_packer.proofs.laws.packed_bodies_spell_requests.Goals as goal

pub returns : goal.returns
returns c = bodies_spell
