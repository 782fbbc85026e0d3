use Rattle.world_model.proofs.Histories.{facts, in_order, no_more}
use Rattle.world_model.proofs.laws.history.nothing_is_executed_twice_or_out_of_order.Goals as goal

pub returns-clause-in_order : goal.returns-clause-in_order
returns-clause-in_order c = λ window rounds board air moves w place body is at. in_order c.laws_below.ensures w place
    body (facts c.laws_below.ensures window rounds board air moves w is) at

pub returns-clause-no_more : goal.returns-clause-no_more
returns-clause-no_more c = λ window rounds board air moves w is. no_more c.laws_below.ensures w
    (facts c.laws_below.ensures window rounds board air moves w is)
