use Rattle.board_history.proofs.OverLinks.{ran_over}
use Rattle.board_history.proofs.machine_laws.each_link_of_a_run_ran_as_the_machine.Goals as goal

pub returns : goal.returns
returns c = ran_over
