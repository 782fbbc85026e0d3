use Rattle.std.proofs.lemmas.Result.{IfOk-weaker, IfErr-weaker}
use Rattle.hub_multiplexer.specs.AnyCalls.{HasSubmittedAs}
use Rattle.hub_multiplexer.proofs.Adds.{in_time, may_give_either}
use Rattle.hub_multiplexer.proofs.calls.submit.Goals as goal

pub submit_on-submitted-requires-clause-all_asked : goal.submit_on-submitted-requires-clause-all_asked
submit_on-submitted-requires-clause-all_asked g c =
    (c.args.pass.now.knows, c.take-value.ensures.told, c.requires.idle.1, c.requires.all_asked)

pub give-requires-clause-grows : goal.give-requires-clause-grows
give-requires-clause-grows g c κs within =
    let m = g.V.AtHub.manner in
    let sound = (g.met.V.AtHub g.world.𝓛 g.world.𝓜 g.world.𝓡 ((λ s x. x), (λ x. x), (λ x. x), λ x. x)).sound in
    may_give_either m sound c.args.client c.args.pass.now c.take-value.new.pass _ _ c.take-value.new.pass.knows.vain
    (λ seq k. HasSubmittedAs m k c.args.body seq) (λ why k. m.refuses k c.args.body why)
    c.submit_on-submitted.result c.take-value.ensures.taken c.requires.idle.1 c.submit_on-submitted.ensures.submitted
    c.submit_on-submitted.ensures.refused

pub returns-clause-submitted : goal.returns-clause-submitted
returns-clause-submitted g c =
    let m = g.V.AtHub.manner in
    let sound = (g.met.V.AtHub g.world.𝓛 g.world.𝓜 g.world.𝓡 ((λ s x. x), (λ x. x), (λ x. x), λ x. x)).sound in
    let taken = c.take-value.ensures in
    IfOk-weaker c.submit_on-submitted.result _ _ (λ seq means. in_time m sound c.args.client c.args.pass.now
    c.take-value.new.pass c.give.new.pass _ _ (λ k. HasSubmittedAs m k c.args.body seq) means c.requires.idle.1
    taken.told taken.vain taken.taken c.give.ensures) c.submit_on-submitted.ensures.submitted

pub returns-clause-refused : goal.returns-clause-refused
returns-clause-refused g c =
    let m = g.V.AtHub.manner in
    let sound = (g.met.V.AtHub g.world.𝓛 g.world.𝓜 g.world.𝓡 ((λ s x. x), (λ x. x), (λ x. x), λ x. x)).sound in
    let taken = c.take-value.ensures in
    IfErr-weaker c.submit_on-submitted.result _ _ (λ why means. in_time m sound c.args.client c.args.pass.now
    c.take-value.new.pass c.give.new.pass _ _ (λ k. m.refuses k c.args.body why) means c.requires.idle.1
    taken.told taken.vain taken.taken c.give.ensures) c.submit_on-submitted.ensures.refused
