use Rattle.lane_record.proofs.NextEntries.{may_seal, only_seal}
use Rattle.lane_record.proofs.laws.entries.a_record_goes_on_by_a_seal.Goals as goal

pub returns-clause-goes_on : goal.returns-clause-goes_on
returns-clause-goes_on c = λ items outcomes is unsealed. may_seal items outcomes unsealed is

pub returns-clause-only : goal.returns-clause-only
returns-clause-only c = only_seal
