use Rattle.mtu_packer.proofs.Asking.{pieces_ask}
use Rattle.mtu_packer.proofs.laws.the_pieces_ask_for_the_accesses_of_the_operation.Goals as goal

pub returns : goal.returns
returns c op payload low = pieces_ask payload op low
