use Rattle.reliable_engine.proofs.Lates.{lates_first, lates_stand}
use Rattle.reliable_engine.proofs.laws.a_late_answer_never_changes.Goals as goal

pub returns-clause-in_order : goal.returns-clause-in_order
returns-clause-in_order c = lates_stand

pub returns-clause-handed_out : goal.returns-clause-handed_out
returns-clause-handed_out c = lates_first
