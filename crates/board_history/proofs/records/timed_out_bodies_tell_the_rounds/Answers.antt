use Rattle.board_history.proofs.Live.{all_tell}
use Rattle.board_history.proofs.records.timed_out_bodies_tell_the_rounds.Goals as goal

pub returns : goal.returns
returns c = all_tell
