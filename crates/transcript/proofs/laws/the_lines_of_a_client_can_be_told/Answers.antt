use Rattle.transcript.proofs.Printed.{client_lines_fit}
use Rattle.transcript.proofs.laws.the_lines_of_a_client_can_be_told.Goals as goal

pub returns : goal.returns
returns c = client_lines_fit c.joining_is_a_function.ensures.joined
