use Rattle.world_model.proofs.Histories.{facts, one_late_reply, one_reply, one_reply_in_air}
use Rattle.world_model.proofs.laws.history.replies_of_one_place_are_equal.Goals as goal

pub returns-clause-heard : goal.returns-clause-heard
returns-clause-heard c = λ window rounds board air moves w id one other words again is mine yours reads reads_again.
    one_reply_in_air c.laws_below.ensures w id one other words again
    (facts c.laws_below.ensures window rounds board air moves w is) mine yours reads reads_again

pub returns-clause-fates : goal.returns-clause-fates
returns-clause-fates c = λ window rounds board air moves w tag other place words again is told told_again.
    one_reply c.laws_below.ensures w tag other place words again
    (facts c.laws_below.ensures window rounds board air moves w is) told told_again

pub returns-clause-lates : goal.returns-clause-lates
returns-clause-lates c = λ window rounds board air moves w place words again is told told_again.
    one_late_reply c.laws_below.ensures w place words again
    (facts c.laws_below.ensures window rounds board air moves w is) told told_again
