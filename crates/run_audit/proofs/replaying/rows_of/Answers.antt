use Rattle.std.proofs.Common.{◌∙◌, ap, length, map, sym, arith}
use Rattle.std.proofs.lemmas.Grind.{common_steps}
use Rattle.run_audit.specs.Steps.{piece_kept}
use Rattle.run_audit.proofs.Replays.{rows_are, written}
use Rattle.run_audit.proofs.replaying.rows_of.Goals as goal

pub returns : goal.returns
returns c =
    let long = c.as_mut_slice.ensures.len in
    written c.loop-planned.rows.len c.loop-planned.rows.items c.mark_all.new.rows (c.mark_all.auto.rows ∙ long)
    (ap length (sym c.as_mut_slice.ensures.value) ∙ long)
    ∙ rows_are c.loop-planned.rows.items c.mark_all.new.rows c.as_mut_slice.result.now (map piece_kept c.args.pieces.now)
    c.args.plans.now c.loop-planned.planned-index c.loop-planned.invariant c.loop-planned-test.false
    c.as_mut_slice.ensures.value c.mark_all.ensures

pub loop-planned-preserved : goal.loop-planned-preserved
loop-planned-preserved c = grind (arith, common_steps)
