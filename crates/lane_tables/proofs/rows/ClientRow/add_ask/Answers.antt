use Rattle.std.proofs.Common.{◌+◌, ◌<◌, List, length, sym, subst}
use Rattle.lane_tables.specs.declared.rows.PlannedBody.{PlannedBody}
use Rattle.lane_tables.specs.Books.{IsFirstUntaken, Row}
use Rattle.lane_tables.proofs.PlannedBodies.{first_asked}
use Rattle.lane_tables.proofs.rows.ClientRow.add_ask.Goals as goal

pub invariant_of-self : goal.invariant_of-self
invariant_of-self c =
    let r = c.self.inside in
    subst (λ (bodies : List PlannedBody). IsFirstUntaken bodies (r.asked + 1) r.taken) (sym c.set_asked.ensures)
    (first_asked r.bodies.items r.asked r.taken c.args.ask
    (subst (λ (v : Row). v.asked < length v.bodies) (sym c.self.view_is) c.requires) c.self.invariant)
