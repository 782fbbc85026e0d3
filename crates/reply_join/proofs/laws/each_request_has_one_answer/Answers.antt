use Rattle.reply_join.proofs.Joined.{answers_length}
use Rattle.reply_join.proofs.laws.each_request_has_one_answer.Goals as goal

pub returns : goal.returns
returns c = answers_length
