use Rattle.world_model.specs.Hub.{new_hub}
use Rattle.reliable_engine.proofs.FateBodies.{all_tagged}
use Rattle.reliable_engine.proofs.Runs.{new_is_hub}
use Rattle.reliable_engine.proofs.laws.a_fate_is_that_of_its_body.Goals as goal

pub returns : goal.returns
returns c = λ first window rounds events one few.
    all_tagged (new_hub first window rounds) events (new_is_hub first window rounds few one) tt
