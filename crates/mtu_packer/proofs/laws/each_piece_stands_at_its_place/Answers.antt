use Rattle.mtu_packer.proofs.PlaceLemmas.{pieces_stand}
use Rattle.mtu_packer.proofs.laws.each_piece_stands_at_its_place.Goals as goal

pub returns : goal.returns
returns c = pieces_stand
