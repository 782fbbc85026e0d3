use Rattle.transaction_codec.proofs.Longest.{reply_can_answer, answer_is_reply}
use Rattle.transaction_codec.proofs.laws.replies_are_what_boards_answer.Goals as goal

pub returns-clause-replies : goal.returns-clause-replies
returns-clause-replies c = reply_can_answer

pub returns-clause-answers : goal.returns-clause-answers
returns-clause-answers c = answer_is_reply
