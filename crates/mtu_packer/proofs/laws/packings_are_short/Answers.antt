use Rattle.mtu_packer.proofs.Sizes.{few_bodies, few_words}
use Rattle.mtu_packer.proofs.laws.packings_are_short.Goals as goal

pub returns-clause-bodies : goal.returns-clause-bodies
returns-clause-bodies c = few_bodies

pub returns-clause-words : goal.returns-clause-words
returns-clause-words c = few_words
