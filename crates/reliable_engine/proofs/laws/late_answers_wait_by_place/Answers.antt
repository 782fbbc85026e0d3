use Rattle.reliable_engine.proofs.Lates.{lates_by_place}
use Rattle.reliable_engine.proofs.laws.late_answers_wait_by_place.Goals as goal

pub returns : goal.returns
returns c = λ first window rounds events. lates_by_place _ events tt
