use Rattle.std.proofs.Common.{[], ◌∷◌}
use Rattle.toml.specs.Data.{get_member}
use Rattle.session_input.specs.Deserved.{session_part}
use Rattle.config_store.proofs.KeptLines.{no_more}
use Rattle.config_store.specs.Kept.{indexed_boards}
use Rattle.config_store.specs.Refusals.{applying_faults}
use Rattle.config_input.specs.Work.{apply_command, applying, entries_in, state_faults, state_key}
use Rattle.config_commands.proofs.Texts.{made_boards, script_steps}
use Rattle.config_commands.proofs.laws.applied_texts_are_those_of_given_and_opening_values.Goals as goal

pub returns : goal.returns
returns c = λ bytes session steps runs links is are tell zero.
    let by = is.holds in
    let asks = by.asks in
    let value = get_member state_key is.document in
    let document = session_part (apply_command.part is.document) in
    let of_document = by.stands.is_session in
    let compiled = asks.boards.compiled in
    let boards = indexed_boards session.boards asks.registers in
    let right = no_more (state_faults value) (applying_faults boards (entries_in value)) asks.right in
    let found =
    c.an_applied_text_is_that_of_given_and_opening_values.ensures session.settings session.boards asks.registers steps
    runs links (entries_in value)
    (script_steps c.where_all_was_done_nothing_was_denied.ensures (applying value) session by.policy steps runs links asks
    are zero)
    (c.the_boards_of_a_session_have_their_own_names.ensures document session of_document)
    (c.the_boards_of_a_session_have_words_and_fields.ensures.names document session asks.registers of_document
    compiled.each_index)
    (c.the_boards_of_a_session_have_words_and_fields.ensures.fields document session asks.registers of_document
    compiled.compile compiled.each_index)
    right.1 asks.ordered (c.values_of_a_state_are_words.ensures value) are tell
    (made_boards c.a_session_keeps_its_limits.ensures (applying value) session by.policy (steps ∷ []) document of_document
    asks)
    (c.the_ranges_of_a_session_name_words.ensures document session of_document)
    (c.what_is_read_for_a_command_can_be_executed.ensures.apply bytes session (steps ∷ []) is).0 zero in
    record {
      registers = asks.registers;
      compiled = compiled;
      entries = found.0;
      applied = found.1;
      among = found.2;
      spelled = found.3;
    }
