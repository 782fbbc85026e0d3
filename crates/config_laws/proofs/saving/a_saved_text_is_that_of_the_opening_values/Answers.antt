use Rattle.std.proofs.Common.{sym, subst, List}
use Rattle.std.specs.List.{AllZip}
use Rattle.script_steps.specs.declared.operation.Step.{Step}
use Rattle.config_store.specs.Kept.{indexed_boards, kept_of}
use Rattle.config_store.specs.Meanings.{Reads}
use Rattle.config_laws.proofs.SavedLines.{saved_text_is, single_words}
use Rattle.config_laws.proofs.saving.a_saved_text_is_that_of_the_opening_values.Goals as goal

pub returns : goal.returns
returns c = λ settings specs indexes steps runs links are own names is tell made words can status.
    let boards = indexed_boards specs indexes in
    let reads : AllZip (Reads boards) (kept_of boards) steps =
    subst (λ (ss : List Step). AllZip (Reads boards) (kept_of boards) ss) (sym are)
    (c.the_scripts_write_and_read.ensures.save specs indexes own names) in
    saved_text_is settings specs indexes (kept_of boards) steps runs links is reads
    (c.good_reads_show_the_words_that_boards_open_with.ensures settings specs steps runs links is tell made words can
    (single_words boards (kept_of boards) steps reads) status)
