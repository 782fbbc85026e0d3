use Rattle.std.proofs.Common.{option_map, refl}
use Rattle.toml.specs.View.{view}
use Rattle.config_store.specs.Kept.{indexed_boards}
use Rattle.config_store.specs.Refusals.{applying_faults}
use Rattle.config_input.specs.Deserved.{BreaksInWork, Tells, of_store}
use Rattle.config_input.specs.Work.{applying, entries_in, state_faults}
use Rattle.config_input.proofs.Planned.{asked_by, behind_told, front_told, handed_on, one_each, own_told}
use Rattle.config_input.proofs.reading.apply_session.Goals as goal

pub apply_lines-requires : goal.apply_lines-requires
apply_lines-requires c =
    rw c.deref.ensures.value (one_each c.args.session c.in_ok-indexes.indexes.items c.in_ok-indexes.ensures.boards)

pub returns-in_err-state-clause-refused : goal.returns-in_err-state-clause-refused
returns-in_err-state-clause-refused c =
    let value = option_map view c.args.value.now in
    let session = c.args.session in
    let indexes = c.in_ok-indexes.indexes.items in
    handed_on (Tells (BreaksInWork (applying value) session)) c.from_residual-in_err-state.result
    (of_store c.in_err-state.field-0.0) c.from_residual-in_err-state.ensures.1
    (front_told (applying value) session indexes (state_faults value)
    (applying_faults (indexed_boards session.boards indexes) (entries_in value)) c.in_err-state.field-0.0
    c.in_ok-indexes.ensures.boards refl c.in_err-state.ensures.refused)

pub returns-in_err-lines-clause-refused : goal.returns-in_err-lines-clause-refused
returns-in_err-lines-clause-refused c =
    let value = option_map view c.args.value.now in
    let session = c.args.session in
    let indexes = c.in_ok-indexes.indexes.items in
    handed_on (Tells (BreaksInWork (applying value) session)) c.from_residual-in_err-lines.result
    (of_store c.in_err-lines.field-0.0) c.from_residual-in_err-lines.ensures.1
    (behind_told (applying value) session indexes (state_faults value)
    (applying_faults (indexed_boards session.boards indexes) (entries_in value)) c.in_err-lines.field-0.0
    c.in_ok-indexes.ensures.boards refl c.in_ok-state.ensures.accepted
    (rw c.in_ok-state.ensures.read at (rw c.deref.ensures.value at c.in_err-lines.ensures.refused)))

pub planned-requires-clause-faultless : goal.planned-requires-clause-faultless
planned-requires-clause-faultless c =
    let value = option_map view c.args.value.now in
    let session = c.args.session in
    let indexes = c.in_ok-indexes.indexes.items in
    let document = c.requires.document in
    let entries = c.in_ok-state.ensures.read in
    rw c.deref-2.ensures.value (rw c.in_ok-lines.ensures.lines (rw c.deref.ensures.value (rw entries
    (c.the_scripts_have_no_fault.ensures.apply session.boards indexes (entries_in value)
    (c.the_boards_of_a_session_have_their_own_names.ensures document.0 session document.1)
    (c.the_boards_of_a_session_have_words_and_fields.ensures.names document.0 session indexes document.1
    c.in_ok-indexes.ensures.boards.compiled.each_index)
    (rw entries at (rw c.deref.ensures.value at c.in_ok-lines.ensures.accepted))
    (rw entries at c.in_ok-state.ensures.ordered) (c.values_of_a_state_are_words.ensures value)))))

pub returns-clause-asked : goal.returns-clause-asked
returns-clause-asked c =
    let entries = c.in_ok-state.ensures.read in
    let shown = c.deref.ensures.value in
    asked_by (applying (option_map view c.args.value.now)) c.args.session c.args.policy c.in_ok-indexes.indexes.items
    c.deref-2.result.now c.in_ok-lines.lines.items c.planned.result c.deref-2.ensures.value
    c.in_ok-indexes.ensures.boards
    (rw c.in_ok-state.ensures.accepted (rw entries at (rw shown at c.in_ok-lines.ensures.accepted)))
    (rw entries at c.in_ok-state.ensures.ordered) (rw entries at (rw shown at c.in_ok-lines.ensures.lines))
    c.planned.ensures.own c.planned.ensures.meant

pub returns-clause-refused : goal.returns-clause-refused
returns-clause-refused c =
    own_told (applying (option_map view c.args.value.now)) c.args.session c.in_ok-indexes.indexes.items
    c.deref-2.result.now c.planned.result c.deref-2.ensures.value c.in_ok-indexes.ensures.boards
    (rw c.in_ok-state.ensures.accepted
    (rw c.in_ok-state.ensures.read at (rw c.deref.ensures.value at c.in_ok-lines.ensures.accepted)))
    c.planned.ensures.refused
