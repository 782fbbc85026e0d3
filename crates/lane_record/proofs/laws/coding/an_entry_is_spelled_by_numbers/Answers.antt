use Rattle.lane_record.proofs.Coding.{one_item, read_item}
use Rattle.lane_record.proofs.laws.coding.an_entry_is_spelled_by_numbers.Goals as goal

pub returns-clause-read : goal.returns-clause-read
returns-clause-read c = read_item

pub returns-clause-one : goal.returns-clause-one
returns-clause-one c = one_item
