use Rattle.world_model.proofs.Answered.{all_answered}
use Rattle.world_model.proofs.laws.answered.each_sent_place_is_open_or_answered.Goals as goal

pub returns : goal.returns
returns c = all_answered
