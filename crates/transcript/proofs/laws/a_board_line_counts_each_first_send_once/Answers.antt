use Rattle.transcript.proofs.Counts.{sent_is_sum, sent_have_places}
use Rattle.transcript.proofs.laws.a_board_line_counts_each_first_send_once.Goals as goal

pub returns-clause-places : goal.returns-clause-places
returns-clause-places c = sent_have_places

pub returns-clause-sum : goal.returns-clause-sum
returns-clause-sum c = sent_is_sum
