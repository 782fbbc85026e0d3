use Rattle.std.proofs.Common.{IfOk, OnErr, subst}
use Rattle.hub_multiplexer.specs.AnyCalls.{AskMeansAs, IsNone, MeansAs}
use Rattle.hub_multiplexer.proofs.boxed_calls.ask_on.Goals as goal

pub returns-clause-asked : goal.returns-clause-asked
returns-clause-asked g c =
    let m = g.V.AtHub.manner in
    let entries = g.V.Chronicle.entries in
    subst (λ value. IfOk c.ask_next.result (λ answer. MeansAs m c.args.client (entries value)
    (λ k. AskMeansAs m k answer) (entries c.ask_next.new.self)))
    c.deref_mut.ensures.value c.ask_next.ensures.asked

pub returns-clause-looked : goal.returns-clause-looked
returns-clause-looked g c =
    let m = g.V.AtHub.manner in
    let entries = g.V.Chronicle.entries in
    subst (λ value. OnErr c.ask_next.result (MeansAs m c.args.client (entries value) (λ _. IsNone)
    (entries c.ask_next.new.self))) c.deref_mut.ensures.value c.ask_next.ensures.looked
