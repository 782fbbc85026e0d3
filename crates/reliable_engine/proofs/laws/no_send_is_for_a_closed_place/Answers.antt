use Rattle.reliable_engine.proofs.Runs.{not_sent_again}
use Rattle.reliable_engine.proofs.Hubs.{send_open}
use Rattle.reliable_engine.proofs.laws.no_send_is_for_a_closed_place.Goals as goal

pub returns-clause-open_place : goal.returns-clause-open_place
returns-clause-open_place c = send_open

pub returns-clause-not_again : goal.returns-clause-not_again
returns-clause-not_again c = not_sent_again
