use Rattle.std.proofs.Common.{IfOk, OnErr, subst}
use Rattle.hub_multiplexer.specs.AnyCalls.{IsNone, MeansAs, StepMeansAs}
use Rattle.hub_multiplexer.proofs.boxed_calls.step_on.Goals as goal

pub returns-clause-stepped : goal.returns-clause-stepped
returns-clause-stepped g c =
    let m = g.V.AtHub.manner in
    let entries = g.V.Chronicle.entries in
    subst (λ value. IfOk c.step_for.result (λ answer. MeansAs m c.args.client (entries value)
    (λ k. StepMeansAs m k answer) (entries c.step_for.new.self)))
    c.deref_mut.ensures.value c.step_for.ensures.stepped

pub returns-clause-looked : goal.returns-clause-looked
returns-clause-looked g c =
    let m = g.V.AtHub.manner in
    let entries = g.V.Chronicle.entries in
    subst (λ value. OnErr c.step_for.result (MeansAs m c.args.client (entries value) (λ _. IsNone)
    (entries c.step_for.new.self))) c.deref_mut.ensures.value c.step_for.ensures.looked
