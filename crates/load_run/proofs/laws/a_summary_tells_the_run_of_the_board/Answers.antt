use Rattle.load_run.proofs.Runs.{tells}
use Rattle.load_run.proofs.laws.a_summary_tells_the_run_of_the_board.Goals as goal

pub returns : goal.returns
returns c = tells c.the_first_sends_are_the_order.ensures
