use Rattle.command_words.proofs.Bounds.{bounded}
use Rattle.command_words.proofs.laws.a_load_has_a_bound.Goals as goal

pub returns : goal.returns
returns c = λ words count is. bounded words count is
