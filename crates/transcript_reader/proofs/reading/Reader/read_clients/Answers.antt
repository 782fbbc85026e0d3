use Rattle.std.proofs.Common.{◌≡◌, ◌+◌, take, length, arith}
use Rattle.std.proofs.lemmas.Grind.{common_steps}
use Rattle.std.proofs.lemmas.List.{length-take-le}
use Rattle.std.proofs.lemmas.Result.{err_from_is_err_and}
use Rattle.transcript_reader.proofs.Told.{next_item}
use Rattle.transcript_reader.proofs.Walked.{clients_more, clients_stuck, parts_at, take_next}
use Rattle.transcript_reader.proofs.reading.Reader.read_clients.Goals as goal

pub read_client-requires-clause-packed : goal.read_client-requires-clause-packed
read_client-requires-clause-packed c = grind (arith, common_steps)

pub returns-in_err-shows-clause-shows : goal.returns-in_err-shows-clause-shows
returns-in_err-shows-clause-shows c = grind (arith, common_steps)

pub returns-in_err-shows-clause-stuck : goal.returns-in_err-shows-clause-stuck
returns-in_err-shows-clause-stuck c =
    let p = err_from_is_err_and c.from_residual.result c.from_residual.ensures.1 in
    let count : c.loop-i.i + 1 ≡ 1 + length (take c.loop-i.i c.args.scripts.now) =
    omega (arith, length-take-le c.loop-i.i c.args.scripts.now (omega arith)) in
    rw (p.1, p.2)
    (clients_stuck c.args.session.now.boards.now c.args.session.now.told.now c.args.scripts.now
    (take c.loop-i.i c.args.scripts.now) _ (c.loop-i.i + 1) c.index-scripts-i.result c.as_slice.result.now
    c.args.self.now c.loop-i.self c.loop-i.clients.items _ c.loop-i.invariant.progress count c.as_slice.ensures
    (parts_at c.args.scripts.now c.loop-i.i c.index-scripts-i.result
    (next_item c.args.scripts.now c.loop-i.i c.index-scripts-i.result c.loop-i-test.true c.index-scripts-i.is))
    c.in_err-shows.ensures.stuck)

pub loop-i-preserved : goal.loop-i-preserved
loop-i-preserved c =
    let is = next_item c.args.scripts.now c.loop-i.i c.index-scripts-i.result c.loop-i-test.true c.index-scripts-i.is in
    let count : c.loop-i.i + 1 ≡ 1 + length (take c.loop-i.i c.args.scripts.now) =
    omega (arith, length-take-le c.loop-i.i c.args.scripts.now (omega arith)) in
    record {
      progress = rw (
        take_next c.args.scripts.now c.loop-i.i c.index-scripts-i.result c.loop-i-test.true
            c.index-scripts-i.is,
        c.in_ok-push.ensures.items,
      )
          (clients_more c.args.session.now.boards.now c.args.session.now.told.now (take c.loop-i.i c.args.scripts.now)
          (c.loop-i.i + 1) c.index-scripts-i.result c.as_slice.result.now c.args.self.now c.loop-i.self
          c.read_client.new.self c.loop-i.clients.items c.in_ok-shows.shows c.loop-i.invariant.progress count
          c.as_slice.ensures c.in_ok-shows.ensures.shows);
      packed = (rw is at c.loop-i.invariant.packed).1;
    }

pub returns-clause-shows : goal.returns-clause-shows
returns-clause-shows c = grind (arith, common_steps)
