use Rattle.transcript.proofs.Skipping.{behind_error, behind_late_error}
use Rattle.transcript.proofs.laws.skipped_stands_behind_an_error.Goals as goal

pub returns-clause-in_time : goal.returns-clause-in_time
returns-clause-in_time c =
    behind_error c.joining_is_a_function.ensures.joined c.skipped_stands_behind_a_fault.ensures

pub returns-clause-late : goal.returns-clause-late
returns-clause-late c =
    behind_late_error c.joining_is_a_function.ensures.joined c.skipped_stands_behind_a_fault.ensures
