use Rattle.lossy_network.proofs.Receipts.{the_got, the_quiet}
use Rattle.lossy_network.proofs.laws.a_receive_hands_out_the_first_for_the_hub.Goals as goal

pub returns-clause-got : goal.returns-clause-got
returns-clause-got c = the_got

pub returns-clause-quiet : goal.returns-clause-quiet
returns-clause-quiet c = the_quiet
