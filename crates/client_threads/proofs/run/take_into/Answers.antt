use Rattle.std.proofs.Common.{◌≡◌, List, Some, length, set, refl, sym, ap, ◌∙◌, arith}
use Rattle.std.proofs.lemmas.Option.{slice_get_read}
use Rattle.std.proofs.lemmas.Result.{IfOk-weaker}
use Rattle.std.specs.List.{slice_get}
use Rattle.lane_record.specs.declared.outcome.Outcome.{Outcome}
use Rattle.client_threads.proofs.Each.{took_into}
use Rattle.client_threads.proofs.run.take_into.Goals as goal

pub returns-clause-took : goal.returns-clause-took
returns-clause-took g c =
    let lanes = c.args.lanes.now in
    let lane = c.args.lane in
    let had : List Outcome = c.into_vec-outcomes.result.items in
    let read : slice_get lanes lane ≡ Some c.index-lanes-lane.result = slice_get_read lanes
    (length lanes) lane c.index-lanes-lane.result refl (omega (arith, c.requires.lanes, c.requires.lane))
    c.index-lanes-lane.is in
    let here : slice_get lanes lane ≡ Some had = read ∙ ap Some
    (c.index-lanes-lane.is ∙ sym (c.into_vec-outcomes.ensures ∙ c.replace-before.ensures.value)) in
    IfOk-weaker c.take_on-taken.result _ _ (λ u t. took_into lane c.args.count lanes _ had
    c.take_on-taken.new.outcomes.items c.replace-before.new.dest c.args.seat.now.knows
    c.take_on-taken.new.seat.knows here (ap (λ z. set (set lanes lane c.replace-before.new.dest) lane z)
    c.from_vec-2.ensures) t) c.take_on-taken.ensures.took
