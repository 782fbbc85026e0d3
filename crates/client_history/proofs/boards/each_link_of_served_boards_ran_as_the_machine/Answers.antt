use Rattle.client_history.proofs.OverLinks.{ran_served}
use Rattle.client_history.proofs.boards.each_link_of_served_boards_ran_as_the_machine.Goals as goal

pub returns : goal.returns
returns c = ran_served
