use Rattle.std.proofs.Common.{arith}
use Rattle.std.proofs.lemmas.Grind.{common_steps}
use Rattle.std.proofs.Common.{append-nil, append_assoc}
use Rattle.std.proofs.lemmas.List.{drop_all}
use Rattle.run_audit.proofs.Walking.{drop_here}
use Rattle.run_audit.proofs.replaying.runs_of.Goals as goal

pub loop-i-preserved : goal.loop-i-preserved
loop-i-preserved c =
    let before = c.loop-i.invariant in
    let board = drop_here c.args.boards.now c.loop-i.i c.index-boards-i.result c.loop-i-test.true c.index-boards-i.is in
    let shown = c.in-Some-get.ensures.lookup in
    let pieces = drop_here c.args.pieces.now c.loop-i.i c.in-Some-get.shown.now shown.3.0 shown.1 in
    let plans = c.in-Some.ensures.items in
    record {
      runs = rw (c.in_ok-push.ensures.items, append_assoc, c.in_ok-replayed_run.ensures, c.as_slice.ensures.value)
          (rw (board, plans, pieces) at before.runs);
      here = (rw board at before.here).1;
      short = (rw plans at before.short).1;
    }

pub returns : goal.returns
returns c = rw (drop_all c.loop-i.i c.args.boards.now c.loop-i-test.false, append-nil) at c.loop-i.invariant.runs

pub returns-in_default : goal.returns-in_default
returns-in_default c = grind (arith, common_steps)

pub returns-in_default-get : goal.returns-in_default-get
returns-in_default-get c = grind (arith, common_steps)

pub replayed_run-requires-clause-here : goal.replayed_run-requires-clause-here
replayed_run-requires-clause-here c = grind (arith, common_steps)
