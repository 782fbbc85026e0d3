use Rattle.std.proofs.lemmas.Result.{IfOk-weaker, on_err_weaker}
use Rattle.hub_multiplexer.specs.AnyCalls.{FindMeansAs, IsNone}
use Rattle.hub_multiplexer.proofs.Adds.{in_time, may_give_back}
use Rattle.hub_multiplexer.proofs.waiting.visit.Goals as goal

pub returns-clause-found : goal.returns-clause-found
returns-clause-found g c =
    let m = g.V.AtHub.manner in
    let sound = (g.met.V.AtHub g.world.𝓛 g.world.𝓜 g.world.𝓡 ((λ s x. x), (λ x. x), (λ x. x), λ x. x)).sound in
    let taken = c.take-value.ensures in
    IfOk-weaker c.visit_on-found.result _ _ (λ answer means. in_time m sound c.args.client c.args.pass.now c.take-value.new.pass
    c.give.new.pass _ _ (λ k. FindMeansAs m k answer) means c.requires.idle.1 taken.told taken.vain taken.taken
    c.give.ensures) c.visit_on-found.ensures.found

pub returns-clause-looked : goal.returns-clause-looked
returns-clause-looked g c =
    let m = g.V.AtHub.manner in
    let sound = (g.met.V.AtHub g.world.𝓛 g.world.𝓜 g.world.𝓡 ((λ s x. x), (λ x. x), (λ x. x), λ x. x)).sound in
    let taken = c.take-value.ensures in
    on_err_weaker c.visit_on-found.result (λ means. in_time m sound c.args.client c.args.pass.now c.take-value.new.pass
    c.give.new.pass _ _ (λ _. IsNone) means c.requires.idle.1 taken.told taken.vain taken.taken c.give.ensures)
    c.visit_on-found.ensures.looked

pub give-requires-clause-grows : goal.give-requires-clause-grows
give-requires-clause-grows g c κs within =
    let m = g.V.AtHub.manner in
    let sound = (g.met.V.AtHub g.world.𝓛 g.world.𝓜 g.world.𝓡 ((λ s x. x), (λ x. x), (λ x. x), λ x. x)).sound in
    may_give_back m sound c.args.client c.args.pass.now c.take-value.new.pass _ _ c.take-value.new.pass.knows.vain
    (λ answer k. FindMeansAs m k answer) (λ _. IsNone) c.visit_on-found.result c.take-value.ensures.taken
    c.requires.idle.1 c.visit_on-found.ensures.found c.visit_on-found.ensures.looked
