use Rattle.world_model.specs.Hub.{new_hub}
use Rattle.reliable_engine.proofs.FateOrder.{by_place}
use Rattle.reliable_engine.proofs.laws.fates_wait_by_place.Goals as goal

pub returns : goal.returns
returns c = λ first window rounds events. by_place (new_hub first window rounds) events tt
