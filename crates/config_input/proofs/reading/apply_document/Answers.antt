use Rattle.std.proofs.Common.{inr, option_map, subst}
use Rattle.toml.specs.View.{table_view, view}
use Rattle.config_input.specs.Deserved.{BreaksCommand, BreaksInWork, Stands}
use Rattle.config_input.specs.Work.{apply_command, applying}
use Rattle.config_input.proofs.Planned.{told_by}
use Rattle.config_input.proofs.reading.apply_document.Goals as goal

pub returns-clause-refused : goal.returns-clause-refused
returns-clause-refused c =
    let session = c.in_ok-session.field-0.session in
    let policy = c.in_ok-session.field-0.policy in
    let taken = c.take_key-value.ensures in
    told_by c.apply_session.result (BreaksInWork (applying (option_map view c.take_key-value.result)) session)
    (BreaksCommand apply_command (table_view c.args.document))
    (λ r broken. inr (record {
      session = session;
      policy = policy;
      stands = subst (λ part. Stands part session policy) taken.left (record {
        is_session = c.in_ok-session.ensures.session;
        has_policy = c.in_ok-session.ensures.policy;
      });
      broken = subst (λ value. BreaksInWork (applying value) session r) taken.taken broken;
    }))
    c.apply_session.ensures.refused
