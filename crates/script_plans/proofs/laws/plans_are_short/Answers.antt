use Rattle.script_plans.proofs.FewBodies.{few_bodies, short_bodies}
use Rattle.script_plans.proofs.laws.plans_are_short.Goals as goal

pub returns-clause-bodies : goal.returns-clause-bodies
returns-clause-bodies c = few_bodies c.operations_of_words_are_packed.ensures c.packings_are_short.ensures.bodies

pub returns-clause-words : goal.returns-clause-words
returns-clause-words c = short_bodies c.operations_of_words_are_packed.ensures c.packings_are_short.ensures.words
