use Rattle.lane_record.proofs.Coding.{one_head}
use Rattle.lane_record.proofs.laws.coding.a_head_is_spelled_by_numbers.Goals as goal

pub returns : goal.returns
returns c = one_head
