use Rattle.reliable_engine.proofs.Lates.{told_once}
use Rattle.reliable_engine.proofs.laws.a_late_answer_is_told_once.Goals as goal

pub returns : goal.returns
returns c = told_once
