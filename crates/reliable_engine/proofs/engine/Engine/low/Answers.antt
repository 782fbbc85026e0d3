use Rattle.std.proofs.Common.{◌+◌, arith}
use Rattle.world_model.specs.Hub.{places}
use Rattle.world_model.proofs.Places.{least_end}
use Rattle.reliable_engine.proofs.Hubs.{sent_of}
use Rattle.reliable_engine.proofs.engine.Engine.low.Goals as goal

pub returns-clause-up_to_next : goal.returns-clause-up_to_next
returns-clause-up_to_next c =
    let i = c.self.inside in
    let is = c.self.invariant in
    let end = least_end _ (i.sent + 1) (places i.open_places) is.in_window.rising in
    omega (arith, c.low.ensures, sent_of i c.args.self.now c.self.view_is is)
