use Rattle.lane_record.proofs.NextEntries.{may_ask, only_ask}
use Rattle.lane_record.proofs.laws.entries.a_record_goes_on_by_an_ask.Goals as goal

pub returns-clause-goes_on : goal.returns-clause-goes_on
returns-clause-goes_on c = λ items outcomes client seq now outcome is may place.
    may_ask items outcomes client seq now outcome may place is

pub returns-clause-only : goal.returns-clause-only
returns-clause-only c = only_ask
