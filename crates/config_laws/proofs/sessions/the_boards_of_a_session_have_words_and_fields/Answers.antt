use Rattle.config_laws.proofs.SessionBoards.{have_fields, word_names}
use Rattle.config_laws.proofs.sessions.the_boards_of_a_session_have_words_and_fields.Goals as goal

pub returns-clause-names : goal.returns-clause-names
returns-clause-names c =
    word_names c.names_are_words_of_lines.ensures.boards c.names_are_words_of_lines.ensures.registers

pub returns-clause-fields : goal.returns-clause-fields
returns-clause-fields c = have_fields
