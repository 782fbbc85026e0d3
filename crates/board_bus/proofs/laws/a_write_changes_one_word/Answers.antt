use Rattle.board_bus.proofs.WordsKept.{write-here, write-elsewhere}
use Rattle.board_bus.proofs.laws.a_write_changes_one_word.Goals as goal

pub returns-clause-here : goal.returns-clause-here
returns-clause-here c = write-here

pub returns-clause-elsewhere : goal.returns-clause-elsewhere
returns-clause-elsewhere c = write-elsewhere
