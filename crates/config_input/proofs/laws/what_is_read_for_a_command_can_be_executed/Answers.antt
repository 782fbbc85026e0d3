use Rattle.config_input.proofs.Asked.{applicable_done, savable_done}
use Rattle.config_input.proofs.laws.what_is_read_for_a_command_can_be_executed.Goals as goal

pub returns-clause-save : goal.returns-clause-save
returns-clause-save c =
    savable_done c.what_is_denied_asks_for_less.ensures.executable
    c.the_boards_of_a_session_have_their_own_names.ensures
    c.the_boards_of_a_session_have_words_and_fields.ensures.names
    c.the_boards_of_a_session_have_words_and_fields.ensures.fields c.the_scripts_can_be_executed.ensures.save

pub returns-clause-apply : goal.returns-clause-apply
returns-clause-apply c =
    applicable_done c.what_is_denied_asks_for_less.ensures.executable
    c.the_boards_of_a_session_have_their_own_names.ensures
    c.the_boards_of_a_session_have_words_and_fields.ensures.names
    c.the_boards_of_a_session_have_words_and_fields.ensures.fields c.the_scripts_can_be_executed.ensures.apply
    c.values_of_a_state_are_words.ensures
