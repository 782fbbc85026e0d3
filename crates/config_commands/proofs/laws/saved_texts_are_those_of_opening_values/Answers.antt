use Rattle.std.proofs.Common.{[], ◌∷◌}
use Rattle.session_input.specs.Deserved.{session_part}
use Rattle.config_input.specs.Work.{save_command, saving}
use Rattle.config_commands.proofs.Texts.{made_boards, script_steps}
use Rattle.config_commands.proofs.laws.saved_texts_are_those_of_opening_values.Goals as goal

pub returns : goal.returns
returns c = λ bytes session steps runs links is are tell zero.
    let by = is.holds in
    let asks = by.asks in
    let document = session_part (save_command.part is.document) in
    let of_document = by.stands.is_session in
    let found =
    c.a_saved_text_is_that_of_the_opening_values.ensures session.settings session.boards asks.registers steps runs links
    (script_steps c.where_all_was_done_nothing_was_denied.ensures saving session by.policy steps runs links asks are zero)
    (c.the_boards_of_a_session_have_their_own_names.ensures document session of_document)
    (c.the_boards_of_a_session_have_words_and_fields.ensures.names document session asks.registers of_document
    asks.boards.compiled.each_index)
    are tell
    (made_boards c.a_session_keeps_its_limits.ensures saving session by.policy (steps ∷ []) document of_document asks)
    (c.the_ranges_of_a_session_name_words.ensures document session of_document)
    (c.what_is_read_for_a_command_can_be_executed.ensures.save bytes session (steps ∷ []) is).0 zero in
    record {
      registers = asks.registers;
      compiled = asks.boards.compiled;
      entries = found.0;
      saved = found.1;
      spelled = found.2;
    }
