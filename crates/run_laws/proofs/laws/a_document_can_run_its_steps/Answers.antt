use Rattle.session_input.specs.Deserved.{session_part}
use Rattle.run_laws.proofs.laws.a_document_can_run_its_steps.Goals as goal

pub returns : goal.returns
returns c = λ bytes session steps runnable. record {
  document = session_part runnable.stands.document;
  is_session = runnable.stands.is_session;
  buses = runnable.runs.boards.buses;
  on_boards = c.operations_are_on_the_boards_of_their_session.ensures bytes session steps runnable;
  executable = c.what_can_be_run_can_be_executed.ensures bytes session steps runnable;
}
