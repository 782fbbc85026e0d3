use Rattle.hub_multiplexer.specs.AnyCalls.{AskMeansAs, IsNone}
use Rattle.hub_multiplexer.proofs.Adds.{at_once, may_give_back}
use Rattle.lane_tables.proofs.Results.{on_err_holds}
use Rattle.hub_multiplexer.proofs.calls.try_ask.Goals as goal

pub returns-clause-tried : goal.returns-clause-tried
returns-clause-tried g c =
    let m = g.V.AtHub.manner in
    let sound = (g.met.V.AtHub g.world.𝓛 g.world.𝓜 g.world.𝓡 ((λ s x. x), (λ x. x), (λ x. x), λ x. x)).sound in
    let taken = c.in-Some.ensures in
    c.of.ensures _ _ (at_once m sound c.args.client c.args.pass.now c.try_take.new.pass c.give.new.pass _ _
    (λ k. AskMeansAs m k c.in_ok-asked.field-0) c.in_ok-asked.ensures.asked c.requires.idle.1 taken.told taken.taken
    c.give.ensures)

pub returns-in_err-asked-clause-looked : goal.returns-in_err-asked-clause-looked
returns-in_err-asked-clause-looked g c =
    let m = g.V.AtHub.manner in
    let sound = (g.met.V.AtHub g.world.𝓛 g.world.𝓜 g.world.𝓡 ((λ s x. x), (λ x. x), (λ x. x), λ x. x)).sound in
    let taken = c.in-Some.ensures in
    on_err_holds c.from_residual.result (at_once m sound c.args.client c.args.pass.now c.try_take.new.pass c.give.new.pass _ _
    (λ _. IsNone) c.in_err-asked.ensures.looked c.requires.idle.1 taken.told taken.taken c.give.ensures)

pub give-requires-clause-grows : goal.give-requires-clause-grows
give-requires-clause-grows g c κs within =
    let m = g.V.AtHub.manner in
    let sound = (g.met.V.AtHub g.world.𝓛 g.world.𝓜 g.world.𝓡 ((λ s x. x), (λ x. x), (λ x. x), λ x. x)).sound in
    may_give_back m sound c.args.client c.args.pass.now c.try_take.new.pass _ _ c.args.pass.now.knows.vain
    (λ answer k. AskMeansAs m k answer) (λ _. IsNone) c.ask_on-asked.result c.in-Some.ensures.taken c.requires.idle.1
    c.ask_on-asked.ensures.asked c.ask_on-asked.ensures.looked
