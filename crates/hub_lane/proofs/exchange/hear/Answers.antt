use Rattle.world_model.specs.Messages.{to_hub}
use Rattle.links.specs.Messages.{IsRead}
use Rattle.std.proofs.Common.{subst}
use Rattle.links.specs.declared.message.Message.{Message}
use Rattle.hub_lane.proofs.Heard.{other_same}
use Rattle.hub_lane.proofs.exchange.hear.Goals as goal

pub returns-in-Other-clause-hub : goal.returns-in-Other-clause-hub
returns-in-Other-clause-hub c = other_same c.args.hub.now (to_hub c.args.bytes.now)
    (subst (λ (m : Message). IsRead c.args.bytes.now m) c.in-Other.is c.in_ok-id.ensures)
