use Rattle.world_model.proofs.Histories.{facts, replied_there, at_most_once}
use Rattle.world_model.proofs.laws.history.a_fate_is_that_of_its_place.Goals as goal

pub returns-clause-replied : goal.returns-clause-replied
returns-clause-replied c = λ window rounds board air moves w tag place words is told. replied_there c.laws_below.ensures
    w tag place words (facts c.laws_below.ensures window rounds board air moves w is) told

pub returns-clause-timed_out : goal.returns-clause-timed_out
returns-clause-timed_out c = λ window rounds board air moves w tag place after is told. at_most_once
    c.laws_below.ensures w tag place after (facts c.laws_below.ensures window rounds board air moves w is) told
