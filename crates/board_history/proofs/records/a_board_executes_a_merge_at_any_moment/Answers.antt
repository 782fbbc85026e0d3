use Rattle.board_history.proofs.Merges.{merge_at, partly_planned}
use Rattle.board_history.proofs.records.a_board_executes_a_merge_at_any_moment.Goals as goal

pub returns-clause-merge : goal.returns-clause-merge
returns-clause-merge c = merge_at

pub returns-clause-planned : goal.returns-clause-planned
returns-clause-planned c = partly_planned
