use Rattle.board_berth.proofs.Tellings.{tells_greetings}
use Rattle.board_berth.proofs.laws.a_record_tells_its_greetings.Goals as goal

pub returns : goal.returns
returns c = tells_greetings c.a_head_is_spelled_by_numbers.ensures c.an_entry_is_spelled_by_numbers.ensures.one
