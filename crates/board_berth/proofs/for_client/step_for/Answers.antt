use Rattle.std.proofs.lemmas.Result.{IfOk-weaker, on_err_weaker}
use Rattle.board_berth.proofs.Means.{look_means, step_means}
use Rattle.board_berth.proofs.for_client.step_for.Goals as goal

pub returns-clause-stepped : goal.returns-clause-stepped
returns-clause-stepped g c = IfOk-weaker c.step-stepped.result _ _ (λ answer did. step_means g.L.Link c.args.client
    c.args.berth.now c.step-stepped.new.self c.is_sound.ensures c.is_sound-2.ensures answer
    c.step-stepped.ensures.on_lane did) c.step-stepped.ensures.stepped

pub returns-clause-looked : goal.returns-clause-looked
returns-clause-looked g c = on_err_weaker c.step-stepped.result (λ did. look_means g.L.Link c.args.client
    c.args.berth.now c.step-stepped.new.self c.is_sound.ensures c.is_sound-2.ensures c.step-stepped.ensures.on_lane did)
    c.step-stepped.ensures.same
