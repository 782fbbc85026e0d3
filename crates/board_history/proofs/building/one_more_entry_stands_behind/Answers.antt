use Rattle.board_history.proofs.Growing.{one_plan}
use Rattle.board_history.proofs.building.one_more_entry_stands_behind.Goals as goal

pub returns : goal.returns
returns c = record { plan = one_plan }
