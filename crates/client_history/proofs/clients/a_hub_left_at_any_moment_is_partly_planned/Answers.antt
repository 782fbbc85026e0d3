use Rattle.client_history.proofs.Partly.{partly_planned}
use Rattle.client_history.proofs.clients.a_hub_left_at_any_moment_is_partly_planned.Goals as goal

pub returns : goal.returns
returns c = partly_planned c.a_record_is_partly_planned_on_its_way.ensures.more
