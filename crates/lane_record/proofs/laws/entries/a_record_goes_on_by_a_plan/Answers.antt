use Rattle.lane_record.proofs.NextEntries.{may_plan, only_plan}
use Rattle.lane_record.proofs.laws.entries.a_record_goes_on_by_a_plan.Goals as goal

pub returns-clause-goes_on : goal.returns-clause-goes_on
returns-clause-goes_on c = λ items outcomes client seq body is may. may_plan items outcomes client seq body may is

pub returns-clause-only : goal.returns-clause-only
returns-clause-only c = only_plan
