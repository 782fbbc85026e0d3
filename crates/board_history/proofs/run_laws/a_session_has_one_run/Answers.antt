use Rattle.board_history.proofs.Shown.{only_run, only_runs}
use Rattle.board_history.proofs.run_laws.a_session_has_one_run.Goals as goal

pub returns-clause-one : goal.returns-clause-one
returns-clause-one c = only_run c.a_history_of_clients_in_turn_is_the_only_one.ensures

pub returns-clause-all : goal.returns-clause-all
returns-clause-all c = only_runs c.a_history_of_clients_in_turn_is_the_only_one.ensures 0
