use Rattle.std.proofs.Common.{◌≡◌, ◌∙◌, ◌++◌, append-nil, option_to_list, subst, sym}
use Rattle.std.proofs.lemmas.List.{drop_all}
use Rattle.std.specs.Prelude.{IfErr}
use Rattle.script_lang.specs.Tallies.{StopsAs}
use Rattle.script_lang.proofs.StepsSoFar.{all_can_be_packed, lines_counted, one_line_more, stopped_at_line, with_no_step}
use Rattle.script_lang.proofs.StepsSoFar.{with_step_of}
use Rattle.script_lang.proofs.compile.script_steps.Goals.{in-Some+in_ok-push, in_default}
use Rattle.script_lang.proofs.compile.script_steps.Goals as goal

pub loop-i-preserved : goal.loop-i-preserved
loop-i-preserved c =
    let before = c.loop-i in
    let next = c.in_ok-step in
    let grown : c.match-step.steps.items ≡ c.loop-i.steps.items ++ option_to_list c.in_ok-step.step =
    elim c.match-step.branch [
      | in-Some+in_ok-push w ↦
          rw w.steps-is (with_step_of before.steps.items w.push.new.self.items next.step w.in-Some.step
          w.in_ok-push.ensures.items w.in-Some.is)
      | in_default w ↦ rw w.steps-is (with_no_step before.steps.items next.step w.in_default.is)
    ] in
    record {
      run = one_line_more c.args.boards.now c.args.indexes.now c.args.client before.steps.items c.match-step.steps.items
          before.so_far next.next next.step before.i c.index-lines-i.result c.as_str-text.result.now
          c.args.lines.now c.loop-i-test.true c.index-lines-i.is c.as_str-text.ensures grown next.ensures.next
          ∙ before.invariant.run;
      within = next.ensures.within;
      counted = lines_counted before.i before.so_far.lines next.next.lines before.invariant.counted
          next.ensures.counted;
      packed = all_can_be_packed before.steps.items c.match-step.steps.items next.step grown before.invariant.packed
          next.ensures.packed;
    }

pub returns-in_err-step-clause-stopped : goal.returns-in_err-step-clause-stopped
returns-in_err-step-clause-stopped c =
    let before = c.loop-i in
    let handed = c.from_residual-in_err-step in
    subst (λ run. IfErr handed.result (StopsAs run)) before.invariant.run
    (stopped_at_line c.args.boards.now c.args.indexes.now c.args.client before.steps.items before.so_far before.i
    c.index-lines-i.result c.as_str-text.result.now c.args.lines.now handed.result c.in_err-step.field-0.0
    c.loop-i-test.true c.index-lines-i.is c.as_str-text.ensures c.in_err-step.ensures.stopped handed.ensures.1)

pub returns-clause-run : goal.returns-clause-run
returns-clause-run c =
    rw c.from_vec.ensures
    (sym (rw (drop_all c.loop-i.i c.args.lines.now c.loop-i-test.false, append-nil) at c.loop-i.invariant.run))
