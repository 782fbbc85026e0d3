use Rattle.std.proofs.Common.{IfErr, IfOk, subst}
use Rattle.hub_multiplexer.specs.AnyCalls.{HasSubmittedAs, MeansAs}
use Rattle.hub_multiplexer.proofs.boxed_calls.submit_on.Goals as goal

pub returns-clause-submitted : goal.returns-clause-submitted
returns-clause-submitted g c =
    let m = g.V.AtHub.manner in
    let entries = g.V.Chronicle.entries in
    subst (λ value. IfOk c.submit_for.result (λ seq. MeansAs m c.args.client (entries value)
    (λ k. HasSubmittedAs m k c.args.body seq) (entries c.submit_for.new.self)))
    c.deref_mut.ensures.value c.submit_for.ensures.submitted

pub returns-clause-refused : goal.returns-clause-refused
returns-clause-refused g c =
    let m = g.V.AtHub.manner in
    let entries = g.V.Chronicle.entries in
    subst (λ value. IfErr c.submit_for.result (λ why. MeansAs m c.args.client (entries value)
    (λ k. m.refuses k c.args.body why) (entries c.submit_for.new.self)))
    c.deref_mut.ensures.value c.submit_for.ensures.refused
