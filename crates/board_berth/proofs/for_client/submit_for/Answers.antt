use Rattle.std.proofs.Common.{sym, subst}
use Rattle.std.proofs.lemmas.Result.{IfOk-weaker, IfErr-weaker}
use Rattle.hub_multiplexer.specs.AnyCalls.{HasSubmittedAs, MeansAs}
use Rattle.board_berth.specs.Berths.{berth_record}
use Rattle.board_berth.specs.Manner.{BerthRefused, berth_manner}
use Rattle.board_berth.proofs.Submitting.{next_asked, planned_means, refused_means, submit_means}
use Rattle.board_berth.proofs.for_client.submit_for.Goals as goal

pub ask_planned-asked-requires-clause-next : goal.ask_planned-asked-requires-clause-next
ask_planned-asked-requires-clause-next g c = next_asked g.L.Link c.args.client c.in-Ok.seq c.args.body c.args.berth.now
    c.plan-planned.new.self c.all_asked_in_present.ensures c.in-Ok.ensures.planned

pub returns-in-Ok-clause-submitted : goal.returns-in-Ok-clause-submitted
returns-in-Ok-clause-submitted g c =
    let telling = g.L.Link.telling in
    let old = c.args.berth.now in
    let new = c.ask_planned-asked.new.berth in
    IfOk-weaker c.ask_planned-asked.result _ _
    (λ n asked. subst (λ seq. MeansAs berth_manner c.args.client (berth_record telling old)
    (λ k. HasSubmittedAs berth_manner k c.args.body seq) (berth_record telling new)) (sym asked.0)
    (submit_means g.L.Link c.args.client c.args.body old c.plan-planned.new.self new c.is_sound.ensures
    c.is_sound-in-Ok.ensures c.an_ask_is_of_its_plan.ensures.planned c.is_sound-2.ensures c.in-Ok.seq
    c.all_asked_in_present.ensures c.in-Ok.ensures.planned c.plan-planned.ensures.on_lane asked.1
    c.ask_planned-asked.ensures.on_lane))
    c.ask_planned-asked.ensures.asked

pub returns-in-Ok-clause-refused : goal.returns-in-Ok-clause-refused
returns-in-Ok-clause-refused g c =
    let telling = g.L.Link.telling in
    let old = c.args.berth.now in
    let new = c.ask_planned-asked.new.berth in
    IfErr-weaker c.ask_planned-asked.result _ _
    (λ why refused. subst (λ w. MeansAs berth_manner c.args.client (berth_record telling old)
    (λ k. BerthRefused k c.args.body w) (berth_record telling new)) (sym refused.0)
    (planned_means g.L.Link c.args.client c.args.body old c.plan-planned.new.self new c.is_sound.ensures
    c.is_sound-in-Ok.ensures c.in-Ok.seq c.in-Ok.ensures.planned c.plan-planned.ensures.on_lane refused.1))
    c.ask_planned-asked.ensures.refused

pub returns-in-Err-clause-refused : goal.returns-in-Err-clause-refused
returns-in-Err-clause-refused g c = refused_means g.L.Link c.args.client c.args.body c.args.berth.now
    c.plan-planned.new.self c.plan-planned.new.self c.is_sound.ensures c.is_sound-2.ensures c.in-Err.why
    c.in-Err.ensures.unchanged c.in-Err.ensures.refused
