use Rattle.client_history.proofs.Limits.{limits_kept}
use Rattle.client_history.proofs.connections.connections_of_a_hub_keep_the_limits.Goals as goal

pub returns : goal.returns
returns c = λ connections head head_now items after final served ends is planned.
    limits_kept connections head head_now items after final served ends is planned
