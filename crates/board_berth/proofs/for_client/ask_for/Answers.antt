use Rattle.std.proofs.lemmas.Result.{IfOk-weaker, on_err_weaker}
use Rattle.board_berth.proofs.Means.{ask_means, same_means}
use Rattle.board_berth.proofs.for_client.ask_for.Goals as goal

pub returns-clause-asked : goal.returns-clause-asked
returns-clause-asked g c = IfOk-weaker c.ask-asked.result _ _ (λ answer did. ask_means g.L.Link c.args.client
    c.args.berth.now c.ask-asked.new.self c.is_sound.ensures c.is_sound-2.ensures c.an_ask_is_of_its_plan.ensures.planned
    answer c.ask-asked.ensures.on_lane did) c.ask-asked.ensures.asked

pub returns-clause-looked : goal.returns-clause-looked
returns-clause-looked g c = on_err_weaker c.ask-asked.result (λ stays. same_means g.L.Link c.args.client
    c.args.berth.now c.ask-asked.new.self c.is_sound.ensures c.is_sound-2.ensures stays) c.ask-asked.ensures.unchanged
