use Rattle.mtu_packer.proofs.Standing.{stands_there}
use Rattle.mtu_packer.proofs.laws.the_request_at_a_place_is_the_piece.Goals as goal

pub returns : goal.returns
returns c = stands_there c.one_list_for_words.ensures.requests
