use Rattle.std.proofs.Common.{◌∙◌, refl, subst, arith}
use Rattle.std.proofs.lemmas.Grind.{common_steps}
use Rattle.std.specs.Vec.Iter.{into_iter_items}
use Rattle.session_run.specs.Parts.{HasNext}
use Rattle.session_run.proofs.PartLists.{client_done, client_has_next}
use Rattle.session_run.proofs.parts.parts_on_next.Goals as goal

pub loop-client-preserved : goal.loop-client-preserved
loop-client-preserved c = (
  client_done c.loop-client.client-index c.args.planned (into_iter_items c.loop-client.plans)
      (into_iter_items c.next.new.self) c.in-Some.planned c.args.clients.now c.loop-client.clients _ c.client-item.result
      c.next-outcomes.new.self c.next-outcomes.result c.from_vec-lates.result c.loop-client.parts.items
      c.push_reserved.new.self.items c.loop-client.invariant.0 c.in-Some.ensures.items c.loop-client-test.true c.client-item.is
      (c.client-item.is ∙ c.next-outcomes.ensures) (c.from_vec-lates.ensures ∙ c.new.ensures.items)
      c.push_reserved.ensures.items refl,
  omega (arith, c.push_reserved.ensures.len, c.loop-client.invariant.1),
  omega (arith, c.push_reserved.ensures.capacity, c.loop-client.invariant.2),
)

pub loop-client-init : goal.loop-client-init
loop-client-init c = grind (arith, common_steps)

pub returns-clause-parts : goal.returns-clause-parts
returns-clause-parts c = grind (arith, common_steps)

pub returns-clause-others : goal.returns-clause-others
returns-clause-others c = grind (arith, common_steps)

pub next-outcomes-requires : goal.next-outcomes-requires
next-outcomes-requires c =
    let at = c.client-item.is in
    subst HasNext at (client_has_next c.loop-client.client-index c.args.planned (into_iter_items c.loop-client.plans)
    c.args.clients.now c.loop-client.clients c.client-item.result c.loop-client.parts.items c.loop-client.invariant.0
    c.loop-client-test.true at c.requires.next)

pub unreachable-requires : goal.unreachable-requires
unreachable-requires c =
    let none = c.next.ensures.cases in
    let many = c.loop-client.invariant.0.many in
    let within = c.loop-client-test.true in
    grind (arith, common_steps, many, within, none)

pub returns-in_err-parts-clause-parts : goal.returns-in_err-parts-clause-parts
returns-in_err-parts-clause-parts c = grind (arith, common_steps)

pub returns-in_err-parts-clause-others : goal.returns-in_err-parts-clause-others
returns-in_err-parts-clause-others c = grind (arith, common_steps)
