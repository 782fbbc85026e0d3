use Rattle.board_history.proofs.Waits.{became_counted}
use Rattle.board_history.proofs.records.a_record_counts_what_became_of_bodies.Goals as goal

pub returns : goal.returns
returns c = became_counted
