use Rattle.client_history.proofs.Before.{first_among}
use Rattle.client_history.proofs.connections.a_connection_plans_its_first_bodies_first.Goals as goal

pub returns : goal.returns
returns c = λ connections head head_now items front after final served ends is begins index own later at many.
    first_among connections head head_now items front after final served ends is begins index own later at many
