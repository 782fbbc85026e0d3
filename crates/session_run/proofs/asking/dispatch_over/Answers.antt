use Rattle.std.proofs.Common.{◌∙◌, ap, refl, arith}
use Rattle.std.proofs.lemmas.Grind.{common_steps}
use Rattle.session_run.specs.Plans.{count_at}
use Rattle.session_run.proofs.Plans.{lane_more}
use Rattle.session_run.proofs.asking.dispatch_over.Goals as goal

pub loop-lane-preserved : goal.loop-lane-preserved
loop-lane-preserved c =
    lane_more c.args.client c.args.dispatch c.loop-lane.lane c.loop-lane.lane c.count_at-count.result c.args.boards.now
    c.index-boards-lane.result c.loop-lane.asks c.add_pair.new.asks c.loop-lane-test.true
    c.index-boards-lane.is c.loop-lane.invariant refl
    (c.count_at-count.ensures ∙ ap (count_at c.args.client c.args.dispatch) c.as_slice.ensures) c.in_ok-add_pair.ensures

pub loop-lane-init : goal.loop-lane-init
loop-lane-init c = grind (arith, common_steps)

pub returns-in_err-add_pair : goal.returns-in_err-add_pair
returns-in_err-add_pair c = grind (arith, common_steps)

pub returns : goal.returns
returns c = grind (arith, common_steps)
