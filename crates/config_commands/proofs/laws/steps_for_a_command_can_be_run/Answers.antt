use Rattle.session_input.specs.Deserved.{session_part}
use Rattle.config_input.specs.Work.{apply_command, save_command}
use Rattle.config_commands.proofs.laws.steps_for_a_command_can_be_run.Goals as goal

pub returns-clause-save : goal.returns-clause-save
returns-clause-save c = λ bytes session steps is. record {
  document = session_part (save_command.part is.document);
  is_session = is.holds.stands.is_session;
  buses = is.holds.asks.boards.buses;
  on_boards = c.operations_are_on_the_boards_of_their_session.ensures save_command bytes session steps is;
  executable = c.what_is_read_for_a_command_can_be_executed.ensures.save bytes session steps is;
}

pub returns-clause-apply : goal.returns-clause-apply
returns-clause-apply c = λ bytes session steps is. record {
  document = session_part (apply_command.part is.document);
  is_session = is.holds.stands.is_session;
  buses = is.holds.asks.boards.buses;
  on_boards = c.operations_are_on_the_boards_of_their_session.ensures apply_command bytes session steps is;
  executable = c.what_is_read_for_a_command_can_be_executed.ensures.apply bytes session steps is;
}
