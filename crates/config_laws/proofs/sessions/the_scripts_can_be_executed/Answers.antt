use Rattle.std.proofs.Common.{List, sym, subst}
use Rattle.script_steps.specs.Executable.{AreExecutable}
use Rattle.script_steps.specs.declared.operation.Step.{Step}
use Rattle.config_store.specs.Kept.{indexed_boards, kept_of}
use Rattle.config_laws.proofs.Executable.{applied_can, reads_can}
use Rattle.config_laws.proofs.Givens.{all_given, all_read}
use Rattle.config_laws.proofs.sessions.the_scripts_can_be_executed.Goals as goal

pub returns-clause-save : goal.returns-clause-save
returns-clause-save c = λ specs indexes own names fields.
    let boards = indexed_boards specs indexes in
    reads_can boards fields (kept_of boards) _
    (all_read specs indexes own _ (c.the_scripts_write_and_read.ensures.save specs indexes own names))

pub returns-clause-apply : goal.returns-clause-apply
returns-clause-apply c = λ specs indexes state own names fields none values.
    let boards = indexed_boards specs indexes in
    let (writes, reads, are_writes, are_reads, same) =
    c.the_scripts_write_and_read.ensures.apply specs indexes state own names none values in
    subst (λ (steps : List Step). AreExecutable steps) (sym same)
    (applied_can boards fields state (kept_of boards) writes reads (all_given specs indexes own state writes none are_writes)
    (all_read specs indexes own reads are_reads) values)
