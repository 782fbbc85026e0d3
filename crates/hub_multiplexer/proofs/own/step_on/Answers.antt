use Rattle.std.proofs.lemmas.Result.{IfOk-weaker, on_err_weaker}
use Rattle.hub_multiplexer.proofs.Grows.{look_means, step_means}
use Rattle.hub_multiplexer.proofs.own.step_on.Goals as goal

pub returns-clause-stepped : goal.returns-clause-stepped
returns-clause-stepped g c =
    IfOk-weaker c.step-stepped.result _ _ (λ answer s. step_means g.L.Link.telling c.args.lane.now
    c.step-stepped.new.self c.args.client answer c.tells_its_own.ensures.own c.tells_its_own-2.ensures.legal
    c.step-stepped.ensures.opening s) c.step-stepped.ensures.stepped

pub returns-clause-looked : goal.returns-clause-looked
returns-clause-looked g c =
    on_err_weaker c.step-stepped.result (λ s. look_means g.L.Link.telling c.args.lane.now c.step-stepped.new.self
    c.args.client c.tells_its_own.ensures.own c.tells_its_own-2.ensures.legal c.step-stepped.ensures.opening s)
    c.step-stepped.ensures.same
