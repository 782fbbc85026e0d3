use Rattle.session_input.proofs.Ruled.{within_still}
use Rattle.config_input.proofs.planning.planned.Goals as goal

pub returns-clause-limits : goal.returns-clause-limits
returns-clause-limits c =
    within_still c.what_is_denied_asks_for_less.ensures.limits c.args.policy _
    c.in_ok-session.field-0.steps.items c.in_ok-steps.steps.items c.in_ok-steps.ensures c.in_ok-session.ensures.limits
