use Rattle.transaction_codec.proofs.Longest.{reply_room_longest, longest_unique}
use Rattle.transaction_codec.proofs.laws.longest_answer_of_a_body.Goals as goal

pub returns-clause-there : goal.returns-clause-there
returns-clause-there c = reply_room_longest

pub returns-clause-one : goal.returns-clause-one
returns-clause-one c = longest_unique
