use Rattle.config_store.proofs.WordNames.{board_word, register_word}
use Rattle.config_store.proofs.laws.names_are_words_of_lines.Goals as goal

pub returns-clause-registers : goal.returns-clause-registers
returns-clause-registers c = register_word

pub returns-clause-boards : goal.returns-clause-boards
returns-clause-boards c = board_word
