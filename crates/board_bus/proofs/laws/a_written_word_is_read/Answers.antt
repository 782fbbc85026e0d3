use Rattle.board_bus.proofs.ReadBack.{written-read, written-read_elsewhere}
use Rattle.board_bus.proofs.laws.a_written_word_is_read.Goals as goal

pub returns-clause-here : goal.returns-clause-here
returns-clause-here c = written-read

pub returns-clause-elsewhere : goal.returns-clause-elsewhere
returns-clause-elsewhere c = written-read_elsewhere
