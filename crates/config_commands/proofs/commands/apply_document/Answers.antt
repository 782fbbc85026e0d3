use Rattle.std.proofs.Common.{arith}
use Rattle.board_greeting.specs.Reports.{shown_by}
use Rattle.run_laws.proofs.Leaving.{no_memory_handed_on, no_memory_left, refused_left}
use Rattle.config_commands.specs.Terms.{apply_terms}
use Rattle.config_commands.proofs.Leaving.{written_unrefused}
use Rattle.config_commands.proofs.Owed.{leaves_by, apply_goes}
use Rattle.config_commands.proofs.commands.apply_document.Goals as goal

pub write_configuration-requires-clause-runs : goal.write_configuration-requires-clause-runs
write_configuration-requires-clause-runs g c κs within =
    let read = c.in-Ok.ensures in
    rw c.deref.ensures.value (c.steps_that_fit_may_be_run.ensures _ _
    (c.steps_for_a_command_can_be_run.ensures.apply _ _ _ read.applicable) (omega (arith, read.alone)) read.packed read.few
    read.limits read.short)

pub returns-in_err-refused-in-Err-Refused-clause-leaves :
    goal.returns-in_err-refused-in-Err-Refused-clause-leaves
returns-in_err-refused-in-Err-Refused-clause-leaves g c =
    no_memory_handed_on (shown_by g.R.L.Link) _ apply_terms c.args.bytes.now _ c.from_residual.result
    c.from_residual.ensures.0 c.from_residual.ensures.1

pub returns-in-Ok-clause-leaves : goal.returns-in-Ok-clause-leaves
returns-in-Ok-clause-leaves g c =
    let left = c.write_configuration.ensures.leaves in (
      left.0,
      left.1,
      leaves_by (apply_goes c.runs_over_links_are_runs_of_a_session.ensures
          c.steps_for_a_command_can_be_run.ensures.apply c.applied_texts_are_those_of_given_and_opening_values.ensures)
          c.in-Ok.ensures.applicable c.in-Ok.ensures.alone c.deref.ensures.value left.2,
    )

pub returns-in-Ok-clause-refused : goal.returns-in-Ok-clause-refused
returns-in-Ok-clause-refused g c = written_unrefused _ c.write_configuration.ensures.leaves.2

pub returns-in_ok-refused-in-Err-Refused-clause-leaves :
    goal.returns-in_ok-refused-in-Err-Refused-clause-leaves
returns-in_ok-refused-in-Err-Refused-clause-leaves g c =
    let answer = c.in_ok-refused-in-Err-Refused.ensures in
    let deserved = rw c.in-Err-Refused.field-0-is at c.in-Err-Refused.ensures.refused in
    refused_left (shown_by g.R.L.Link) _ apply_terms c.args.bytes.now _ c.in_ok-refused-in-Err-Refused.field-0
    (record { refusal = c.in-Err-Refused.refusal; deserved = deserved; spelled = answer.text }) answer.status

pub returns-in-Err-NoMemory-clause-leaves : goal.returns-in-Err-NoMemory-clause-leaves
returns-in-Err-NoMemory-clause-leaves g c = no_memory_left (shown_by g.R.L.Link) _ apply_terms c.args.bytes.now _
