use Rattle.transcript.proofs.StatusLemmas.{status_done}
use Rattle.transcript.proofs.laws.the_status_tells_whether_all_was_done.Goals as goal

pub returns-clause-done : goal.returns-clause-done
returns-clause-done c = status_done
