use Rattle.std.proofs.Common.{◌∷◌, [], take, length, length-append, ap, arith}
use Rattle.std.proofs.lemmas.Grind.{common_steps}
use Rattle.std.proofs.lemmas.Result.{err_from_is_err_and}
use Rattle.script_steps.specs.Rulings.{Asked, asked_operations}
use Rattle.transcript_reader.specs.Walks.{asking}
use Rattle.transcript_reader.proofs.Told.{next_item}
use Rattle.transcript_reader.proofs.Walked.{asked_parts, asked_taken, none_taken, ops_more, ops_stuck}
use Rattle.transcript_reader.proofs.reading.Reader.read_operations.Goals as goal

pub loop-step-preserved-in_default : goal.loop-step-preserved-in_default
loop-step-preserved-in_default c =
    let is = next_item c.args.steps.now c.loop-step.step-index c.step-item.result c.loop-step-test.true c.step-item.is in
    let same = none_taken c.args.steps.now c.loop-step.step-index c.step-item.result c.loop-step-test.true c.step-item.is
    c.in_default.ensures in
    record {
      progress = rw same c.loop-step.invariant.progress;
      numbered = rw same c.loop-step.invariant.numbered;
      packed = (rw is at c.loop-step.invariant.packed).1;
    }

pub read_next-requires-clause-sound : goal.read_next-requires-clause-sound
read_next-requires-clause-sound c = grind (arith, common_steps)

pub returns-in_err-shown-clause-stuck : goal.returns-in_err-shown-clause-stuck
returns-in_err-shown-clause-stuck c =
    let p = err_from_is_err_and c.from_residual.result c.from_residual.ensures.1 in
    rw (p.1, p.2)
    (ops_stuck c.args.session.now.boards.now c.args.session.now.told.now (asked_operations c.args.steps.now)
    (asked_operations (take c.loop-step.step-index c.args.steps.now)) _ c.loop-step.number (asking c.in-Some.denied c.in-Some.op.now)
    c.args.self.now c.loop-step.self c.loop-step.shows.items _ c.loop-step.invariant.progress
    c.loop-step.invariant.numbered
    (asked_parts c.args.steps.now c.loop-step.step-index c.step-item.result (asking c.in-Some.denied c.in-Some.op.now)
    (next_item c.args.steps.now c.loop-step.step-index c.step-item.result c.loop-step-test.true c.step-item.is)
    c.in-Some.ensures)
    c.in_err-shown.ensures.stuck)

pub loop-step-preserved : goal.loop-step-preserved
loop-step-preserved c =
    let ask : Asked = asking c.in-Some.denied c.in-Some.op.now in
    let before = asked_operations (take c.loop-step.step-index c.args.steps.now) in
    let is = next_item c.args.steps.now c.loop-step.step-index c.step-item.result c.loop-step-test.true c.step-item.is in
    let more = asked_taken c.args.steps.now c.loop-step.step-index c.step-item.result ask c.loop-step-test.true
    c.step-item.is c.in-Some.ensures in
    record {
      progress = rw (more, c.in_ok-push.ensures.items)
          (ops_more c.args.session.now.boards.now c.args.session.now.told.now before c.loop-step.number ask c.args.self.now
          c.loop-step.self c.read_next.new.self c.loop-step.shows.items c.in_ok-shown.shown
          c.loop-step.invariant.progress c.loop-step.invariant.numbered c.in_ok-shown.ensures.shows);
      numbered = omega (arith, c.in_ok-number.ensures, c.loop-step.invariant.numbered, ap length more, length-append before (ask ∷ []));
      packed = (rw is at c.loop-step.invariant.packed).1;
    }

pub returns-clause-shows : goal.returns-clause-shows
returns-clause-shows c = grind (arith, common_steps)
