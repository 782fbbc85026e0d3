use Rattle.std.proofs.Common.{◌∙◌, append-nil, subst, sym}
use Rattle.std.proofs.lemmas.List.{drop_all}
use Rattle.std.specs.Prelude.{IfErr}
use Rattle.script_lang.specs.Tallies.{StopsAs}
use Rattle.script_lang.proofs.StepsSoFar.{all_scripts_packed, one_script_more, stopped_at_script}
use Rattle.script_lang.proofs.compile.all_steps.Goals as goal

pub loop-i-preserved : goal.loop-i-preserved
loop-i-preserved c =
    let before = c.loop-i in
    let next = c.in_ok-steps in
    let pushed = c.in_ok-push.ensures.items in
    record {
      run = one_script_more c.args.boards.now c.args.indexes.now before.all.items c.push.new.self.items before.tally
          next.next next.steps before.i c.index-scripts-i.result c.as_slice.result.now c.args.scripts.now
          c.loop-i-test.true c.index-scripts-i.is c.as_slice.ensures pushed next.ensures.run
          ∙ before.invariant.run;
      within = next.ensures.within;
      packed = all_scripts_packed before.all.items c.push.new.self.items next.steps pushed before.invariant.packed
          next.ensures.packed;
    }

pub returns-in_err-steps-clause-stopped : goal.returns-in_err-steps-clause-stopped
returns-in_err-steps-clause-stopped c =
    let before = c.loop-i in
    let handed = c.from_residual-in_err-steps in
    subst (λ run. IfErr handed.result (StopsAs run)) before.invariant.run
    (stopped_at_script c.args.boards.now c.args.indexes.now before.all.items before.tally before.i
    c.index-scripts-i.result c.as_slice.result.now c.args.scripts.now handed.result c.in_err-steps.field-0.0
    c.loop-i-test.true c.index-scripts-i.is c.as_slice.ensures c.in_err-steps.ensures.stopped handed.ensures.1)

pub returns-clause-run : goal.returns-clause-run
returns-clause-run c =
    sym (rw (drop_all c.loop-i.i c.args.scripts.now c.loop-i-test.false, append-nil) at c.loop-i.invariant.run)
