use Rattle.world_model.proofs.Histories.{facts, history}
use Rattle.world_model.proofs.laws.history.each_body_is_executed_once.Goals as goal

pub returns-clause-history : goal.returns-clause-history
returns-clause-history c = λ window rounds board air moves w is. history c.laws_below.ensures w
    (facts c.laws_below.ensures window rounds board air moves w is)

pub returns-clause-facts : goal.returns-clause-facts
returns-clause-facts c = facts c.laws_below.ensures
