use Rattle.std.proofs.Common.{sym, ◌∙◌}
use Rattle.reply_join.proofs.Joined.{one_answers}
use Rattle.reply_join.proofs.laws.the_answers_are_the_only_ones.Goals as goal

pub returns : goal.returns
returns c body reply one other left right = left.1 ∙ one_answers body reply left.0 right.0 ∙ sym right.1
