use Rattle.board_history.proofs.Live.{is_history, done_once}
use Rattle.board_history.proofs.records.what_clients_took_is_a_history.Goals as goal

pub returns-clause-history : goal.returns-clause-history
returns-clause-history c = is_history

pub returns-clause-executed : goal.returns-clause-executed
returns-clause-executed c = λ bodies outcomes items became lates shown opening done is legal of_lane true'.
    done_once bodies outcomes items became lates opening done is legal true' shown of_lane
