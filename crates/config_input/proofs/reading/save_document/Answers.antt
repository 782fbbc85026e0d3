use Rattle.std.proofs.Common.{inr}
use Rattle.toml.specs.View.{table_view}
use Rattle.config_input.specs.Deserved.{BreaksCommand, BreaksInWork}
use Rattle.config_input.specs.Work.{save_command, saving}
use Rattle.config_input.proofs.Planned.{told_by}
use Rattle.config_input.proofs.reading.save_document.Goals as goal

pub returns-clause-refused : goal.returns-clause-refused
returns-clause-refused c =
    let session = c.in_ok-session.field-0.session in
    told_by c.save_session.result (BreaksInWork saving session) (BreaksCommand save_command (table_view c.args.document))
    (λ r broken. inr (record {
      session = session;
      policy = c.in_ok-session.field-0.policy;
      stands = record {
        is_session = c.in_ok-session.ensures.session;
        has_policy = c.in_ok-session.ensures.policy;
      };
      broken = broken;
    }))
    c.save_session.ensures.refused
