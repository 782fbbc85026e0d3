use Rattle.reply_join.proofs.Garbled.{one_place}
use Rattle.reply_join.proofs.laws.the_place_is_the_only_one.Goals as goal

pub returns : goal.returns
returns c = one_place
