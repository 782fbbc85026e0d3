use Rattle.std.proofs.Common.{IfErr, inr}
use Rattle.session_input.specs.Deserved.{Deserves, IsRunnable, StandsForSession, Tells}
use Rattle.session_input.proofs.Told.{handed_on, told_by}
use Rattle.audit_command.specs.Boards.{BreaksInAudit}
use Rattle.audit_command.proofs.Sessions.{all_here, few_lines}
use Rattle.audit_command.proofs.reading.read_session.Goals as goal

pub returns-in_err-steps-clause-refused : goal.returns-in_err-steps-clause-refused
returns-in_err-steps-clause-refused c =
    let session = c.in_ok-session.field-0.session in
    let policy = c.in_ok-session.field-0.policy in
    let told : IfErr c.from_residual-in_err-steps.result (Tells (BreaksInAudit session policy)) =
    handed_on (Tells (BreaksInAudit session policy)) c.from_residual-in_err-steps.result c.in_err-steps.field-0.0
    c.from_residual-in_err-steps.ensures.1 c.in_err-steps.ensures.refused in
    let stands : StandsForSession c.args.document.now session policy = c.in_ok-session.ensures.stands in
    told_by c.from_residual-in_err-steps.result (BreaksInAudit session policy)
    (Deserves BreaksInAudit c.args.document.now)
    (λ r broken. inr (record {
      fits = c.in_ok-session.ensures.fits;
      session = session;
      policy = policy;
      stands = stands;
      broken = broken;
    }))
    told

pub returns-clause-can : goal.returns-clause-can
returns-clause-can c =
    let session = c.in_ok-session.field-0.session in
    let policy = c.in_ok-session.field-0.policy in
    let steps = c.in_ok-steps.steps.items in
    let within = c.in_ok-session.ensures.within in
    let runs = c.in_ok-steps.ensures.runs in
    let runnable : IsRunnable c.args.document.now session steps = record {
      fits = c.in_ok-session.ensures.fits;
      policy = policy;
      stands = c.in_ok-session.ensures.stands;
      runs = runs;
    } in record {
      boards' = all_here session.boards within.boards runs.boards.buses c.in_ok-steps.ensures.simulated;
      packed = c.in_ok-steps.ensures.packed;
      few = c.in_ok-steps.ensures.few;
      executable = c.what_can_be_run_can_be_executed.ensures c.args.document.now session steps runnable;
      lines' = few_lines session policy steps within runs c.in_ok-steps.ensures.short;
    }
