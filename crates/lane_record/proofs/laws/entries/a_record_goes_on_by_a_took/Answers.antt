use Rattle.lane_record.proofs.NextEntries.{may_took, only_took}
use Rattle.lane_record.proofs.laws.entries.a_record_goes_on_by_a_took.Goals as goal

pub returns-clause-goes_on : goal.returns-clause-goes_on
returns-clause-goes_on c = λ items outcomes client seq outcome now is may.
    may_took items outcomes client seq outcome now may is

pub returns-clause-only : goal.returns-clause-only
returns-clause-only c = only_took
