use Rattle.std.proofs.Common.{◌+◌, sym, subst, arith}
use Rattle.std.proofs.lemmas.Grind.{common_steps}
use Rattle.transcript.specs.declared.lines.Progress.{Progress}
use Rattle.transcript.specs.Steps.{IsProgress}
use Rattle.transcript.proofs.LineLemmas.{after_denied, after_dispatch, after_operation, counts_below, lines_at_end}
use Rattle.transcript.proofs.lines.client_lines.Goals as goal
use Rattle.transcript.proofs.lines.client_lines.Goals.{in-Denied+in_ok-add_denied_line-in-Denied, in-Dispatch}
use Rattle.transcript.proofs.lines.client_lines.Goals.{in-Do+in_ok-add_line-in-Do}

pub loop-step-init : goal.loop-step-init
loop-step-init c = grind (arith, common_steps)

pub returns-in_err-add_denied_line-in-Denied : goal.returns-in_err-add_denied_line-in-Denied
returns-in_err-add_denied_line-in-Denied c = grind (arith, common_steps)

pub loop-step-preserved : goal.loop-step-preserved
loop-step-preserved c =
    let Holds : Progress → Type 0 =
    λ p. IsProgress c.args.runs.now c.args.client c.args.steps.now (c.loop-step.step-index + 1) p.lines.items
    p.counts.number p.counts.on_boards.items in
    elim c.match-step.branch [
      | in-Do+in_ok-add_line-in-Do w ↦ subst Holds (sym w.progress-is) (
          let e = w.in_ok-add_line-in-Do.ensures in
          rw (e.lines, e.number, e.counts)
          (after_operation c.args.runs.now c.args.client c.args.steps.now c.loop-step.step-index _ _ _
          c.loop-step.invariant c.step-item.result c.loop-step-test.true c.step-item.is w.in-Do.op w.in-Do.is))
      | in-Denied+in_ok-add_denied_line-in-Denied w ↦ subst Holds (sym w.progress-is) (
          let e = w.in_ok-add_denied_line-in-Denied.ensures in
          rw (e.lines, e.number, e.counts)
          (after_denied c.args.runs.now c.args.client c.args.steps.now c.loop-step.step-index _ _ _
          c.loop-step.invariant c.step-item.result c.loop-step-test.true c.step-item.is w.in-Denied.rule w.in-Denied.op
          w.in-Denied.is))
      | in-Dispatch w ↦ subst Holds (sym w.progress-is) (
          after_dispatch c.args.runs.now c.args.client c.args.steps.now c.loop-step.step-index _ _ _
          c.loop-step.invariant c.step-item.result c.loop-step-test.true c.step-item.is w.in-Dispatch.is)
    ]

pub add_line-requires-clause-below : goal.add_line-requires-clause-below
add_line-requires-clause-below c =
    counts_below c.args.runs.now c.args.client c.args.steps.now c.loop-step.step-index _ _ _ c.loop-step.invariant

pub returns : goal.returns
returns c =
    lines_at_end c.args.runs.now c.args.client c.args.steps.now c.loop-step.step-index _ _ _ c.loop-step.invariant
    c.loop-step-test.false
