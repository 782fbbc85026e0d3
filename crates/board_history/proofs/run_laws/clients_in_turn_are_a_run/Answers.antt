use Rattle.board_history.proofs.Shown.{is_run, are_runs}
use Rattle.board_history.proofs.run_laws.clients_in_turn_are_a_run.Goals as goal

pub returns-clause-one : goal.returns-clause-one
returns-clause-one c =
    let law = c.clients_in_turn_make_a_history.ensures in
    is_run law.history law.replied law.in_turn

pub returns-clause-all : goal.returns-clause-all
returns-clause-all c =
    let law = c.clients_in_turn_make_a_history.ensures in
    are_runs law.history law.replied law.in_turn 0
