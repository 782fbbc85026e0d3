use Rattle.std.proofs.Common.{◌≡◌, [], ◌∷◌, refl, sym, subst, ◌∙◌, Some}
use Rattle.toml.specs.Parse.{parse_document}
use Rattle.session_input.specs.Deserved.{session_part}
use Rattle.session_input.proofs.OneAnswer.{one_indexes}
use Rattle.config_laws.specs.Saved.{AreSaved}
use Rattle.config_store.proofs.KeptLines.{no_more}
use Rattle.config_store.specs.Kept.{indexed_boards, kept_of}
use Rattle.config_store.specs.Refusals.{applying_faults}
use Rattle.config_store.specs.States.{state_entries}
use Rattle.config_input.specs.Deserved.{IsAsked}
use Rattle.config_input.specs.Work.{apply_command, applying, save_command, state_faults}
use Rattle.config_commands.proofs.Texts.{made_boards, script_steps}
use Rattle.config_commands.proofs.laws.a_saved_text_that_is_applied_is_written_again.Goals as goal

pub returns : goal.returns
returns c = λ bytes others links rest text again saved applied document value tell told names same parsed has given.
    let opening = saved.opening refl tell in
    let mine = saved.savable in
    let before = session_part (save_command.part mine.document) in
    let is_before = mine.holds.stands.is_session in
    let is = applied.applicable in
    let session = applied.session in
    let steps = applied.steps in
    let policy = is.holds.policy in
    let now = session_part (apply_command.part is.document) in
    let is_now = is.holds.stands.is_session in
    let asks : IsAsked (applying (Some value)) session policy (steps ∷ []) =
    subst (λ state. IsAsked (applying state) session policy (steps ∷ [])) given is.holds.asks in
    let compiled = asks.boards.compiled in
    let boards = indexed_boards session.boards asks.registers in
    let one = one_indexes c.table_laws.ensures session opening.registers asks.registers
    (same opening.registers opening.compiled) compiled in
    let are_saved : AreSaved saved.session.boards (kept_of (indexed_boards saved.session.boards asks.registers)) opening.entries =
    subst (λ registers. AreSaved saved.session.boards (kept_of (indexed_boards saved.session.boards registers)) opening.entries)
    one opening.saved in
    let words = c.the_ranges_of_a_session_name_words.ensures before saved.session is_before in
    let read_back =
    c.configurations_of_a_session_can_be_read_back.ensures before saved.session opening.registers opening.entries is_before
    opening.compiled.each_index
    (c.saved_values_have_words.ensures.each saved.session.boards
    (kept_of (indexed_boards saved.session.boards opening.registers)) opening.entries opening.saved)
    (c.saved_values_have_words.ensures.values saved.session.boards
    (kept_of (indexed_boards saved.session.boards opening.registers)) opening.entries words opening.saved) in
    let right = no_more (state_faults (Some value)) (applying_faults boards (state_entries value)) asks.right in
    let run = applied.written.run.boards in
    let zero = sym applied.written.told in
    let found =
    c.a_saved_text_is_written_again.ensures session.settings session.boards saved.session.boards asks.registers steps
    applied.written.runs rest opening.entries document value names are_saved read_back
    (subst (λ bytes. parse_document bytes ≡ Some document) opening.spelled parsed) has
    (script_steps c.where_all_was_done_nothing_was_denied.ensures (applying (Some value)) session policy steps
    applied.written.runs rest asks run zero)
    (c.the_boards_of_a_session_have_their_own_names.ensures now session is_now)
    (c.the_boards_of_a_session_have_words_and_fields.ensures.names now session asks.registers is_now compiled.each_index)
    (c.the_boards_of_a_session_have_words_and_fields.ensures.fields now session asks.registers is_now compiled.compile
    compiled.each_index)
    right.1 asks.ordered (c.values_of_a_state_are_words.ensures (Some value)) run told
    (made_boards c.a_session_keeps_its_limits.ensures (applying (Some value)) session policy (steps ∷ []) now is_now asks)
    (c.the_ranges_of_a_session_name_words.ensures now session is_now)
    (c.what_is_read_for_a_command_can_be_executed.ensures.apply others session (steps ∷ []) is).0 zero in
    applied.written.spelled ∙ found ∙ sym opening.spelled
