use Rattle.std.proofs.Common.{◌≡◌, [], subst}
use Rattle.config_store.proofs.InOrder.{none_in_order}
use Rattle.config_store.specs.Kept.{indexed_boards, kept_of}
use Rattle.config_store.specs.Lines.{save_lines}
use Rattle.config_store.specs.Refusals.{keeping_faults}
use Rattle.config_input.specs.Work.{saving}
use Rattle.config_input.proofs.Planned.{asked_by, one_each, own_told}
use Rattle.config_input.proofs.reading.save_session.Goals as goal

pub save_lines-requires : goal.save_lines-requires
save_lines-requires c =
    rw c.deref.ensures.value (one_each c.args.session c.in_ok-indexes.indexes.items c.in_ok-indexes.ensures.boards)

pub planned-requires-clause-faultless : goal.planned-requires-clause-faultless
planned-requires-clause-faultless c =
    let session = c.args.session in
    let indexes = c.in_ok-indexes.indexes.items in
    let document = c.requires.document in
    rw c.deref-2.ensures.value (rw c.in_ok-lines.ensures.lines (rw c.deref.ensures.value
    (c.the_scripts_have_no_fault.ensures.save session.boards indexes
    (c.the_boards_of_a_session_have_their_own_names.ensures document.0 session document.1)
    (c.the_boards_of_a_session_have_words_and_fields.ensures.names document.0 session indexes document.1
    c.in_ok-indexes.ensures.boards.compiled.each_index)
    (rw c.deref.ensures.value at c.in_ok-lines.ensures.accepted))))

pub returns-clause-refused : goal.returns-clause-refused
returns-clause-refused c =
    own_told saving c.args.session c.in_ok-indexes.indexes.items c.deref-2.result.now c.planned.result
    c.deref-2.ensures.value c.in_ok-indexes.ensures.boards
    (rw c.deref.ensures.value at c.in_ok-lines.ensures.accepted) c.planned.ensures.refused

pub returns-clause-asked : goal.returns-clause-asked
returns-clause-asked c =
    let boards = c.args.session.boards in
    let shown = c.deref.ensures.value in
    asked_by saving c.args.session c.args.policy c.in_ok-indexes.indexes.items c.deref-2.result.now
    c.in_ok-lines.lines.items c.planned.result c.deref-2.ensures.value c.in_ok-indexes.ensures.boards
    (subst (λ indexes. keeping_faults (indexed_boards boards indexes) ≡ []) shown c.in_ok-lines.ensures.accepted)
    none_in_order
    (subst (λ indexes. c.in_ok-lines.lines.items ≡ save_lines (kept_of (indexed_boards boards indexes))) shown
    c.in_ok-lines.ensures.lines)
    c.planned.ensures.own c.planned.ensures.meant
