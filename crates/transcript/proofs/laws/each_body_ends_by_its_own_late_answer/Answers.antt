use Rattle.transcript.proofs.EndsInOrder.{ends_at, ends_counted}
use Rattle.transcript.proofs.laws.each_body_ends_by_its_own_late_answer.Goals as goal

pub returns-clause-ends : goal.returns-clause-ends
returns-clause-ends c = ends_at

pub returns-clause-count : goal.returns-clause-count
returns-clause-count c = ends_counted
