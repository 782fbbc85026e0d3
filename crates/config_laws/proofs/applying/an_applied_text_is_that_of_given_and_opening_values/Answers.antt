use Rattle.std.proofs.Common.{List, [], ◌∷◌, length, sym, ◌∙◌, subst}
use Rattle.script_steps.specs.declared.operation.Step.{Step}
use Rattle.script_steps.specs.Rulings.{asked_operations}
use Rattle.script_lang.specs.OnBoards.{StepsAreOn}
use Rattle.transcript.specs.Lines.{client_lines}
use Rattle.config_store.specs.Kept.{indexed_boards, kept_of}
use Rattle.config_store.specs.Lines.{apply_lines}
use Rattle.config_store.specs.Refusals.{entry_faults, keeping_faults}
use Rattle.config_store.proofs.KeptLines.{no_more}
use Rattle.config_laws.specs.Turns.{AreOfOneWord, ShowTurns}
use Rattle.config_laws.proofs.AppliedScript.{applied_word}
use Rattle.config_laws.proofs.AppliedValues.{applied_text, contains}
use Rattle.config_laws.proofs.Givens.{all_given, all_read}
use Rattle.config_laws.proofs.Whole.{all_shown}
use Rattle.config_laws.proofs.applying.an_applied_text_is_that_of_given_and_opening_values.Goals as goal

pub returns : goal.returns
returns c = λ settings specs indexes steps runs links state are own names fields.
    λ none order values is tell made words can status.
    let boards = indexed_boards specs indexes in
    let kept = kept_of boards in
    let parts = no_more (keeping_faults boards) (entry_faults boards state) none in
    let (writes, reads, are_writes, are_reads, same) =
    c.the_scripts_write_and_read.ensures.apply specs indexes state own names parts.1 values in
    let given = all_given specs indexes own state writes parts.1 are_writes in
    let read = all_read specs indexes own reads are_reads in
    let whole = are ∙ same in
    let one = subst (λ (ss : List Step). AreOfOneWord ss) (sym whole)
    (applied_word boards state kept writes reads given read) in
    let on = subst (λ (ss : List Step). StepsAreOn (length specs) ss) (sym are)
    (c.scripts_ask_of_boards_that_are_there.ensures specs indexes (apply_lines state kept ∷ [])).0 in
    let turns = c.good_lines_show_operations_one_after_another.ensures settings specs steps runs links is tell made words
    can on one status in
    let (shown, applied, text) = applied_text c.written_values_stand_and_other_fields_stay.ensures.own
    c.written_values_stand_and_other_fields_stay.ensures.others c.a_write_changes_one_word.ensures.here
    c.a_write_puts_its_field.ensures.elsewhere c.kept_registers_overlap_in_a_bit_of_a_word.ensures specs indexes own fields
    parts.0 words state values kept writes reads given read (client_lines runs 0 steps)
    (subst (λ (ss : List Step). ShowTurns specs [] (asked_operations ss) (client_lines runs 0 steps)) whole turns) in (
      shown,
      applied,
      all_shown specs boards state shown state writes order applied (λ k e at. contains state k e at) given,
      text,
    )
