use Rattle.load_run.proofs.Runs.{whole-places, whole-total, whole-words}
use Rattle.load_run.proofs.laws.the_total_where_all_are_done.Goals as goal

pub returns-clause-total : goal.returns-clause-total
returns-clause-total c = whole-total c.the_first_sends_are_the_order.ensures

pub returns-clause-places : goal.returns-clause-places
returns-clause-places c = whole-places c.the_first_sends_are_the_order.ensures

pub returns-clause-words : goal.returns-clause-words
returns-clause-words c = whole-words c.the_first_sends_are_the_order.ensures
