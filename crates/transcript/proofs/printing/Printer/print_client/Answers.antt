use Rattle.std.proofs.Common.{◌+◌, ◌++◌, [], List, refl, subst}
use Rattle.transcript.specs.declared.line.OpLine.{OpLine}
use Rattle.transcript.specs.declared.counting.Counts.{Counts}
use Rattle.transcript.specs.declared.printing.Printer.{Printer}
use Rattle.transcript.specs.Printing.{HasPrinted}
use Rattle.transcript.specs.Steps.{IsProgress}
use Rattle.transcript.proofs.LineLemmas.{after_denied, after_dispatch, after_operation, counts_below, lines_at_end}
use Rattle.transcript.proofs.PrintedLines.{both_printed, none_printed, of_both, progress_at_start}
use Rattle.transcript.proofs.printing.Printer.print_client.Goals as goal
use Rattle.transcript.proofs.printing.Printer.print_client.Goals.{in-Denied+in_ok-print_denied-in-Denied, in-Dispatch}
use Rattle.transcript.proofs.printing.Printer.print_client.Goals.{in-Do+in_ok-print_next-in-Do}

pub loop-step-init : goal.loop-step-init
loop-step-init c = (
  [],
  none_printed c.args.self.now,
  progress_at_start c.args.runs.now c.args.client c.args.steps.now _ _ _ c.in_ok-counts.ensures.number
      c.in_ok-counts.ensures.boards refl,
)

pub print_next-requires-clause-below : goal.print_next-requires-clause-below
print_next-requires-clause-below c =
    counts_below c.args.runs.now c.args.client c.args.steps.now c.loop-step.step-index _ _ _ c.loop-step.invariant.2

pub loop-step-preserved : goal.loop-step-preserved
loop-step-preserved c =
    let Holds : Printer → Counts → Type 0 =
    λ p k. (made : List OpLine) × HasPrinted c.args.self.now p made
    × IsProgress c.args.runs.now c.args.client c.args.steps.now (c.loop-step.step-index + 1) made k.number
    k.on_boards.items in
    let before = c.loop-step.invariant in
    elim c.match-step.branch [
      | in-Do+in_ok-print_next-in-Do w ↦ of_both Holds _ _ _ _ w.self-is w.counts-is (
          let done = w.in_ok-print_next-in-Do.ensures in (
            before.0 ++ _,
            both_printed c.args.self.now _ _ before.0 _ before.1 done.lines,
            rw (done.number, done.counts)
                (after_operation c.args.runs.now c.args.client c.args.steps.now c.loop-step.step-index _ _ _ before.2
                c.step-item.result c.loop-step-test.true c.step-item.is w.in-Do.op w.in-Do.is),
          ))
      | in-Denied+in_ok-print_denied-in-Denied w ↦ of_both Holds _ _ _ _ w.self-is w.counts-is (
          let done = w.in_ok-print_denied-in-Denied.ensures in (
            before.0 ++ _,
            both_printed c.args.self.now _ _ before.0 _ before.1 done.lines,
            rw (done.number, done.counts)
                (after_denied c.args.runs.now c.args.client c.args.steps.now c.loop-step.step-index _ _ _ before.2
                c.step-item.result c.loop-step-test.true c.step-item.is w.in-Denied.rule w.in-Denied.op w.in-Denied.is),
          ))
      | in-Dispatch w ↦ of_both Holds _ _ _ _ w.self-is w.counts-is (
        before.0,
        before.1,
        after_dispatch c.args.runs.now c.args.client c.args.steps.now c.loop-step.step-index _ _ _ before.2
            c.step-item.result c.loop-step-test.true c.step-item.is w.in-Dispatch.is,
      )
    ]

pub returns : goal.returns
returns c =
    subst (HasPrinted c.args.self.now c.loop-step.self)
    (lines_at_end c.args.runs.now c.args.client c.args.steps.now c.loop-step.step-index _ _ _ c.loop-step.invariant.2
    c.loop-step-test.false) c.loop-step.invariant.1
