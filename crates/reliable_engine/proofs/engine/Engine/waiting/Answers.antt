use Rattle.std.proofs.Common.{ap, sym, ◌∙◌, refl, arith}
use Rattle.std.proofs.lemmas.Bool.{lt-ltb}
use Rattle.world_model.specs.Hub.{is_waiting}
use Rattle.reliable_engine.proofs.Hubs.{queued}
use Rattle.reliable_engine.proofs.engine.Engine.waiting.Goals as goal

pub returns-then-self-len : goal.returns-then-self-len
returns-then-self-len c =
    let q = queued c.self.inside.bodies.items c.self.inside.sent (omega arith) in
    lt-ltb _ _ c.if-self-len.true ∙ sym (ap is_waiting (sym c.self.view_is) ∙ rw q refl)
