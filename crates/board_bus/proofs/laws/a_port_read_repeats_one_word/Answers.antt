use Rattle.board_bus.proofs.ReadBack.{port_read, port_read_refused}
use Rattle.board_bus.proofs.laws.a_port_read_repeats_one_word.Goals as goal

pub returns-clause-words : goal.returns-clause-words
returns-clause-words c = port_read

pub returns-clause-refused : goal.returns-clause-refused
returns-clause-refused c = port_read_refused
