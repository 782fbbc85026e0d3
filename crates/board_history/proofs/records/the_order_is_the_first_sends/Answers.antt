use Rattle.board_history.proofs.Live.{in_one_order, in_script_order, order_sent}
use Rattle.board_history.proofs.records.the_order_is_the_first_sends.Goals as goal

pub returns-clause-order : goal.returns-clause-order
returns-clause-order c = in_one_order

pub returns-clause-scripts : goal.returns-clause-scripts
returns-clause-scripts c = in_script_order

pub returns-clause-sends : goal.returns-clause-sends
returns-clause-sends c = order_sent
