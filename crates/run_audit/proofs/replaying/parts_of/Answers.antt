use Rattle.run_audit.proofs.Replays.{parts_done}
use Rattle.run_audit.proofs.Walking.{drop_here}
use Rattle.std.proofs.Common.{◌∙◌, append_assoc, arith}
use Rattle.std.proofs.lemmas.Grind.{common_steps}
use Rattle.std.specs.Vec.Iter.{into_iter_items}
use Rattle.run_audit.proofs.replaying.parts_of.Goals as goal

pub returns : goal.returns
returns c =
    c.from_vec-2.ensures
    ∙ parts_done c.args.replies.now (into_iter_items c.loop-row.plans) c.args.rows.now c.loop-row.row-index _ _
    c.loop-row-test.false c.loop-row.invariant

pub loop-row-preserved : goal.loop-row-preserved
loop-row-preserved c =
    let row = drop_here c.args.rows.now c.loop-row.row-index c.row-item.result c.loop-row-test.true c.row-item.is in
    rw (
      c.in_ok-push.ensures.items,
      append_assoc,
      c.in_ok-outcomes_of.ensures,
      c.as_slice.ensures.value,
      c.row.view_is,
      c.from_vec-in-loop-row.ensures,
      c.new.ensures.items,
    )
    (rw (c.in-Some.ensures.items, row) at c.loop-row.invariant)

pub returns-in_default : goal.returns-in_default
returns-in_default c = grind (arith, common_steps)
