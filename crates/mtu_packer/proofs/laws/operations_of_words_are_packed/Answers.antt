use Rattle.mtu_packer.proofs.Function.{words_packed}
use Rattle.mtu_packer.proofs.laws.operations_of_words_are_packed.Goals as goal

pub returns : goal.returns
returns c = words_packed
