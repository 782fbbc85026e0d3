use Rattle.std.proofs.Common.{◌≡◌, ◌≤◌, ◌<◌, ◌∙◌, ℕ, List, true, false, length, sym, subst, ap, arith}
use Rattle.lane_tables.specs.declared.rows.PlannedBody.{PlannedBody}
use Rattle.lane_tables.specs.Books.{IsFirstUntaken, Row, as_taken, is_marked}
use Rattle.lane_tables.proofs.PlannedBodies.{first_taken, length-replaced}
use Rattle.lane_tables.proofs.rows.ClientRow.add_took.Goals as goal

pub untaken_from-self-inside-requires-clause-asked : goal.untaken_from-self-inside-requires-clause-asked
untaken_from-self-inside-requires-clause-asked c =
    let same = ap (λ (bodies : List PlannedBody). length bodies) (c.deref.ensures.value ∙ c.set_taken.ensures)
    ∙ length-replaced c.args.seq as_taken c.self.inside.bodies.items in
    let few = c.self.invariant.few in
    omega (arith, same, few)

pub invariant_of-self : goal.invariant_of-self
invariant_of-self c =
    let r = c.self.inside in
    let after = c.untaken_from-self-inside.result in
    let found = c.untaken_from-self-inside.ensures in
    let bodies_are = c.deref.ensures.value ∙ c.set_taken.ensures in
    subst (λ (bodies : List PlannedBody). IsFirstUntaken bodies r.asked after) (sym c.set_taken.ensures)
    (first_taken r.bodies.items r.asked r.taken c.args.seq after
    (subst (λ (v : Row). c.args.seq < v.asked) (sym c.self.view_is) c.requires) c.self.invariant found.from found.within
    (subst (λ (bodies : List PlannedBody). (n : ℕ) → r.taken ≤ n → n < after → is_marked bodies n ≡ true) bodies_are
    found.taken)
    (subst (λ (bodies : List PlannedBody). after < r.asked → is_marked bodies after ≡ false) bodies_are found.stops))
