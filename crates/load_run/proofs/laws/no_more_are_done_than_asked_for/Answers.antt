use Rattle.load_run.proofs.Runs.{few-done}
use Rattle.load_run.proofs.laws.no_more_are_done_than_asked_for.Goals as goal

pub returns : goal.returns
returns c = few-done c.the_first_sends_are_the_order.ensures
