use Rattle.std.proofs.Common.{map, subst}
use Rattle.session_input.specs.Deserved.{Deserves}
use Rattle.session_input.specs.Recording.{BreaksInRecord}
use Rattle.board_greeting.specs.Reports.{shown_by}
use Rattle.run_laws.specs.Leaving.{RunLeaves}
use Rattle.run_laws.specs.Steps.{MayRun}
use Rattle.run_laws.proofs.Leaving.{kept_unless_refused, no_memory_handed_on, no_memory_left, refused_document_left}
use Rattle.record_command.specs.Steps.{Records}
use Rattle.record_command.specs.Terms.{record_terms}
use Rattle.record_command.proofs.Leaving.{is_done, record_leaves}
use Rattle.record_command.proofs.record.record_document.Goals as goal

pub recorded-requires-clause-may : goal.recorded-requires-clause-may
recorded-requires-clause-may g c κs within =
    let session = c.in-Ok.read.session in
    let steps = c.in-Ok.read.steps.items in
    let runnable = c.in-Ok.ensures.recordable.runnable in
    let ready : MayRun session steps =
    c.steps_that_fit_may_be_run.ensures session steps
    (c.a_document_can_run_its_steps.ensures c.args.bytes.now session steps runnable)
    (c.a_document_has_few_clients.ensures c.args.bytes.now session steps runnable)
    c.in-Ok.ensures.packed c.in-Ok.ensures.few c.in-Ok.ensures.limits c.in-Ok.ensures.short in
    rw c.deref.ensures.value ready

pub returns-in_err-refused-in-Err-Refused-clause-leaves :
    goal.returns-in_err-refused-in-Err-Refused-clause-leaves
returns-in_err-refused-in-Err-Refused-clause-leaves g c =
    no_memory_handed_on (shown_by g.R.L.Link) _ record_terms c.args.bytes.now _ c.from_residual.result
    c.from_residual.ensures.0 c.from_residual.ensures.1

pub returns-in-Ok-clause-leaves : goal.returns-in-Ok-clause-leaves
returns-in-Ok-clause-leaves g c =
    let left = c.recorded.ensures.leaves in
    let made = g.R.Rack.made c.args.rack.now in
    let makes = g.R.Rack.made c.recorded.new.rack in
    let session = c.in-Ok.read.session in
    let steps = c.in-Ok.read.steps.items in
    let links = map (shown_by g.R.L.Link) left.0 in (
      left.0,
      left.1,
      record_leaves c.runs_over_links_are_runs_of_a_session.ensures c.args.bytes.now session steps made makes
          c.recorded.result links c.in-Ok.ensures.recordable
          (c.a_document_can_run_its_steps.ensures c.args.bytes.now session steps c.in-Ok.ensures.recordable.runnable)
          (subst (λ steps. RunLeaves (Records session steps) session steps made makes c.recorded.result links)
          c.deref.ensures.value left.2),
    )

pub returns-in-Ok-clause-refused : goal.returns-in-Ok-clause-refused
returns-in-Ok-clause-refused g c =
    let links = map (shown_by g.R.L.Link) c.recorded.ensures.leaves.0 in
    kept_unless_refused _ (Records c.in-Ok.read.session c.deref.result.now links)
    (is_done c.in-Ok.read.session c.deref.result.now links) c.recorded.result c.recorded.ensures.leaves.2.tells

pub returns-in_ok-refused-in-Err-Refused-clause-leaves :
    goal.returns-in_ok-refused-in-Err-Refused-clause-leaves
returns-in_ok-refused-in-Err-Refused-clause-leaves g c =
    let deserved : Deserves BreaksInRecord c.args.bytes.now c.in-Err-Refused.refusal =
    rw c.in-Err-Refused.field-0-is at c.in-Err-Refused.ensures.refused in
    refused_document_left (shown_by g.R.L.Link) _ record_terms c.args.bytes.now _ BreaksInRecord
    (λ line refused. refused) c.in_ok-refused-in-Err-Refused.field-0 c.in-Err-Refused.refusal deserved
    c.in_ok-refused-in-Err-Refused.ensures.text c.in_ok-refused-in-Err-Refused.ensures.status

pub returns-in-Err-NoMemory-clause-leaves : goal.returns-in-Err-NoMemory-clause-leaves
returns-in-Err-NoMemory-clause-leaves g c = no_memory_left (shown_by g.R.L.Link) _ record_terms c.args.bytes.now _
