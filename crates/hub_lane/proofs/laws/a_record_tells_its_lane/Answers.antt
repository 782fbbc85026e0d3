use Rattle.hub_lane.proofs.Records.{told_by_record}
use Rattle.hub_lane.proofs.laws.a_record_tells_its_lane.Goals as goal

pub returns : goal.returns
returns c = told_by_record c.a_head_is_spelled_by_numbers.ensures c.an_entry_is_spelled_by_numbers.ensures.one
