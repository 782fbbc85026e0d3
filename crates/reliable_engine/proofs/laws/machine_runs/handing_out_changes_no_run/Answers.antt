use Rattle.std.proofs.Common.{◌∙◌, ap}
use Rattle.reliable_engine.proofs.HandingOut.{drained_next, event_joins, event_late, event_same, next_same, passes_same}
use Rattle.reliable_engine.proofs.laws.machine_runs.handing_out_changes_no_run.Goals as goal

pub returns-clause-next : goal.returns-clause-next
returns-clause-next c = λ hub next e. next_same hub ∙ ap drained_next e

pub returns-clause-no_next : goal.returns-clause-no_next
returns-clause-no_next c = λ hub e. next_same hub ∙ ap drained_next e

pub returns-clause-passes : goal.returns-clause-passes
returns-clause-passes c = passes_same

pub returns-clause-same : goal.returns-clause-same
returns-clause-same c = event_same

pub returns-clause-fates : goal.returns-clause-fates
returns-clause-fates c = λ hub event tag fate. event_joins (tag, fate) hub event

pub returns-clause-lates : goal.returns-clause-lates
returns-clause-lates c = λ hub event place words. event_late place words hub event
