use Rattle.std.proofs.Common.{IfOk, OnErr, subst}
use Rattle.hub_multiplexer.specs.AnyCalls.{FindMeansAs, IsNone, MeansAs}
use Rattle.hub_multiplexer.proofs.boxed_calls.visit_on.Goals as goal

pub returns-clause-found : goal.returns-clause-found
returns-clause-found g c =
    let m = g.V.AtHub.manner in
    let entries = g.V.Chronicle.entries in
    subst (λ value. IfOk c.visit_for.result (λ answer. MeansAs m c.args.client (entries value)
    (λ k. FindMeansAs m k answer) (entries c.visit_for.new.value)))
    c.deref_mut.ensures.value c.visit_for.ensures.found

pub returns-clause-looked : goal.returns-clause-looked
returns-clause-looked g c =
    let m = g.V.AtHub.manner in
    let entries = g.V.Chronicle.entries in
    subst (λ value. OnErr c.visit_for.result (MeansAs m c.args.client (entries value) (λ _. IsNone)
    (entries c.visit_for.new.value))) c.deref_mut.ensures.value c.visit_for.ensures.looked
