use Rattle.std.proofs.Common.{inr}
use Rattle.session_input.specs.Deserved.{Deserves, BreaksInRun}
use Rattle.session_input.proofs.Told.{told_by}
use Rattle.session_input.proofs.reading.read_for_run.Goals as goal

pub returns-clause-refused : goal.returns-clause-refused
returns-clause-refused c =
    let stated = c.in_ok-stated.stated in
    told_by c.with_steps.result (BreaksInRun stated.session stated.policy) (Deserves BreaksInRun c.args.bytes.now)
    (λ r broken. inr (record {
      fits = c.in_ok-stated.ensures.fits;
      session = stated.session;
      policy = stated.policy;
      stands = c.in_ok-stated.ensures.stands;
      broken = broken;
    }))
    c.with_steps.ensures.refused
