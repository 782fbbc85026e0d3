use Rattle.script_plans.proofs.FewWords.{few_pieces}
use Rattle.script_plans.proofs.laws.few_words_are_few_pieces.Goals as goal

pub returns : goal.returns
returns c = few_pieces c.pieces_are_no_more_than_words.ensures
