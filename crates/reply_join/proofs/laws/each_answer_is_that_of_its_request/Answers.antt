use Rattle.reply_join.proofs.EachAnswer.{joined_answer}
use Rattle.reply_join.proofs.laws.each_answer_is_that_of_its_request.Goals as goal

pub returns : goal.returns
returns c = joined_answer c.one_list_for_words.ensures.requests
