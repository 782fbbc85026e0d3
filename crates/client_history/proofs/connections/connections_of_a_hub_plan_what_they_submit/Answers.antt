use Rattle.client_history.proofs.Planning.{planned_among}
use Rattle.client_history.proofs.connections.connections_of_a_hub_plan_what_they_submit.Goals as goal

pub returns : goal.returns
returns c = λ connections head head_now items front after final served ends is begins.
    planned_among connections head head_now items front after final served ends is begins
