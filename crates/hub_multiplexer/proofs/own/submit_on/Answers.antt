use Rattle.std.proofs.Common.{sym, subst}
use Rattle.std.proofs.lemmas.Result.{IfOk-weaker, IfErr-weaker}
use Rattle.hub_multiplexer.specs.Calls.{HasSubmitted, SubmitRefused}
use Rattle.hub_multiplexer.specs.Lanes.{Means, shown_record}
use Rattle.hub_multiplexer.proofs.Submits.{next_asked, planned_means, refused_means, submit_means}
use Rattle.hub_multiplexer.proofs.own.submit_on.Goals as goal

pub ask_planned-asked-requires-clause-next : goal.ask_planned-asked-requires-clause-next
ask_planned-asked-requires-clause-next g c =
    next_asked c.args.lane.now c.plan-planned.new.self c.args.client c.in-Ok.seq c.args.body c.requires.all_asked
    c.in-Ok.ensures.planned

pub returns-in-Ok-clause-submitted : goal.returns-in-Ok-clause-submitted
returns-in-Ok-clause-submitted g c =
    let telling = g.L.Link.telling in
    let new = c.ask_planned-asked.new.lane in
    IfOk-weaker c.ask_planned-asked.result _ _
    (λ n asked. subst (λ seq. Means c.args.client (shown_record telling c.args.lane.now)
    (λ k. HasSubmitted k c.args.body seq) (shown_record telling new)) (sym asked.0)
    (submit_means telling c.args.lane.now c.plan-planned.new.self new c.args.client c.args.body
    c.tells_its_own.ensures.own c.an_ask_is_of_its_plan.ensures.planned c.in-Ok.seq c.tells_its_own-2.ensures.legal
    c.tells_its_own-in-Ok.ensures.legal c.requires.all_asked c.in-Ok.ensures.planned
    c.ask_planned-asked.ensures.opening asked.1))
    c.ask_planned-asked.ensures.asked

pub returns-in-Ok-clause-refused : goal.returns-in-Ok-clause-refused
returns-in-Ok-clause-refused g c =
    let telling = g.L.Link.telling in
    let new = c.ask_planned-asked.new.lane in
    IfErr-weaker c.ask_planned-asked.result _ _
    (λ why refused. subst (λ w. Means c.args.client (shown_record telling c.args.lane.now)
    (λ k. SubmitRefused k c.args.body w) (shown_record telling new)) (sym refused.0)
    (planned_means telling c.args.lane.now c.plan-planned.new.self new c.args.client c.args.body
    c.tells_its_own.ensures.own c.in-Ok.seq c.tells_its_own-in-Ok.ensures.legal c.in-Ok.ensures.planned refused.1))
    c.ask_planned-asked.ensures.refused

pub returns-in-Err-clause-refused : goal.returns-in-Err-clause-refused
returns-in-Err-clause-refused g c =
    refused_means g.L.Link.telling c.args.lane.now c.args.lane.now c.plan-planned.new.self c.args.client c.args.body
    c.tells_its_own.ensures.own c.in-Err.why c.tells_its_own-2.ensures.legal c.in-Err.ensures.unchanged
    c.in-Err.ensures.refused
