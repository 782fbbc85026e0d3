use Rattle.mtu_packer.proofs.EachBody.{piece_of_packed, piece_of_packing}
use Rattle.mtu_packer.proofs.laws.each_body_has_a_piece.Goals as goal

pub returns-clause-packing : goal.returns-clause-packing
returns-clause-packing c = piece_of_packing

pub returns-clause-function : goal.returns-clause-function
returns-clause-function c = piece_of_packed
