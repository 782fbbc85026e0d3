use Rattle.hub_multiplexer.proofs.Adds.{found_by_step}
use Rattle.hub_multiplexer.proofs.visit.step_found.Goals as goal

pub returns-clause-found : goal.returns-clause-found
returns-clause-found g c =
    found_by_step g.V.AtHub.manner c.args.client _ _ c.in_ok-step_for.field-0 _ c.found_by.ensures
    c.in_ok-step_for.ensures.stepped
