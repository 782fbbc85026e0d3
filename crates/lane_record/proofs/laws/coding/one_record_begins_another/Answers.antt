use Rattle.lane_record.proofs.Coding.{fronts_spell, spelled_fronts}
use Rattle.lane_record.proofs.laws.coding.one_record_begins_another.Goals as goal

pub returns-clause-begins : goal.returns-clause-begins
returns-clause-begins c = fronts_spell

pub returns-clause-only : goal.returns-clause-only
returns-clause-only c = spelled_fronts
