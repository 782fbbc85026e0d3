use Rattle.std.proofs.lemmas.Result.{IfOk-weaker, on_err_weaker}
use Rattle.hub_multiplexer.proofs.Grows.{ask_means, same_means}
use Rattle.hub_multiplexer.proofs.own.ask_on.Goals as goal

pub returns-clause-asked : goal.returns-clause-asked
returns-clause-asked g c =
    let before = c.tells_its_own.ensures in
    IfOk-weaker c.ask-asked.result _ _ (λ answer a. ask_means g.L.Link.telling c.an_ask_is_of_its_plan.ensures.planned
    c.args.lane.now c.ask-asked.new.self c.args.client answer before.own before.legal
    c.tells_its_own-2.ensures.legal c.ask-asked.ensures.opening a) c.ask-asked.ensures.asked

pub returns-clause-looked : goal.returns-clause-looked
returns-clause-looked g c =
    on_err_weaker c.ask-asked.result (λ e. same_means g.L.Link.telling c.args.lane.now c.ask-asked.new.self
    c.args.client c.tells_its_own.ensures.own c.tells_its_own-2.ensures.legal e) c.ask-asked.ensures.unchanged
