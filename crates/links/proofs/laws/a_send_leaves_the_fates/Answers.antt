use Rattle.links.proofs.States.{one_leaves}
use Rattle.links.proofs.laws.a_send_leaves_the_fates.Goals as goal

pub returns-clause-fates : goal.returns-clause-fates
returns-clause-fates c = λ hub next is. (one_leaves hub next is).fates

pub returns-clause-gave_up : goal.returns-clause-gave_up
returns-clause-gave_up c = λ hub next is. (one_leaves hub next is).gave_up

pub returns-clause-lates : goal.returns-clause-lates
returns-clause-lates c = λ hub next is. (one_leaves hub next is).lates
