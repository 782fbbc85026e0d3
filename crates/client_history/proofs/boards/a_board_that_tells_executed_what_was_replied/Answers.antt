use Rattle.client_history.proofs.Replies.{are_replied, executed_within}
use Rattle.client_history.proofs.boards.a_board_that_tells_executed_what_was_replied.Goals as goal

pub returns-clause-executed : goal.returns-clause-executed
returns-clause-executed c = executed_within c.the_first_sends_are_the_order.ensures

pub returns-clause-replied : goal.returns-clause-replied
returns-clause-replied c = are_replied
