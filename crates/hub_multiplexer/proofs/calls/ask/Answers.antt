use Rattle.std.proofs.lemmas.Result.{IfOk-weaker, on_err_weaker}
use Rattle.hub_multiplexer.specs.AnyCalls.{AskMeansAs, IsNone}
use Rattle.hub_multiplexer.proofs.Adds.{in_time, may_give_back}
use Rattle.hub_multiplexer.proofs.calls.ask.Goals as goal

pub returns-clause-asked : goal.returns-clause-asked
returns-clause-asked g c =
    let m = g.V.AtHub.manner in
    let sound = (g.met.V.AtHub g.world.𝓛 g.world.𝓜 g.world.𝓡 ((λ s x. x), (λ x. x), (λ x. x), λ x. x)).sound in
    let taken = c.take-value.ensures in
    IfOk-weaker c.ask_on-asked.result _ _ (λ answer means. in_time m sound c.args.client c.args.pass.now c.take-value.new.pass
    c.give.new.pass _ _ (λ k. AskMeansAs m k answer) means c.requires.idle.1 taken.told taken.vain taken.taken
    c.give.ensures) c.ask_on-asked.ensures.asked

pub returns-clause-looked : goal.returns-clause-looked
returns-clause-looked g c =
    let m = g.V.AtHub.manner in
    let sound = (g.met.V.AtHub g.world.𝓛 g.world.𝓜 g.world.𝓡 ((λ s x. x), (λ x. x), (λ x. x), λ x. x)).sound in
    let taken = c.take-value.ensures in
    on_err_weaker c.ask_on-asked.result (λ means. in_time m sound c.args.client c.args.pass.now c.take-value.new.pass
    c.give.new.pass _ _ (λ _. IsNone) means c.requires.idle.1 taken.told taken.vain taken.taken c.give.ensures)
    c.ask_on-asked.ensures.looked

pub give-requires-clause-grows : goal.give-requires-clause-grows
give-requires-clause-grows g c κs within =
    let m = g.V.AtHub.manner in
    let sound = (g.met.V.AtHub g.world.𝓛 g.world.𝓜 g.world.𝓡 ((λ s x. x), (λ x. x), (λ x. x), λ x. x)).sound in
    may_give_back m sound c.args.client c.args.pass.now c.take-value.new.pass _ _ c.take-value.new.pass.knows.vain
    (λ answer k. AskMeansAs m k answer) (λ _. IsNone) c.ask_on-asked.result c.take-value.ensures.taken c.requires.idle.1
    c.ask_on-asked.ensures.asked c.ask_on-asked.ensures.looked
