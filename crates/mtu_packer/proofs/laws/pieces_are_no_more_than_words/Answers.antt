use Rattle.mtu_packer.proofs.Pieces.{pieces-le}
use Rattle.mtu_packer.proofs.laws.pieces_are_no_more_than_words.Goals as goal

pub returns : goal.returns
returns c ops payload low = pieces-le payload ops low
