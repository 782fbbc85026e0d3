use Rattle.std.proofs.Common.{◌∙◌, arith}
use Rattle.transaction_codec.specs.Request.{SpellsRequests}
use Rattle.transcript.proofs.EndsInOrder.{ends_more}
use Rattle.transcript.proofs.ListsLeft.{all_left}
use Rattle.transcript.proofs.body_end.ends_of.Goals as goal

pub end_of-requires : goal.end_of-requires
end_of-requires c =
    rw (c.as_slice.ensures, c.index-bodies-i.is)
    (all_left SpellsRequests c.args.bodies.now c.loop-i.i _ c.loop-i-test.true c.loop-i.invariant.spelled).0

pub loop-i-preserved : goal.loop-i-preserved
loop-i-preserved c =
    let before = c.loop-i in
    record {
      ends = rw (
        c.push_reserved.ensures.items,
        c.in_ok-end_of.ensures,
        c.as_slice.ensures,
        c.index-bodies-i.is,
        c.in-Some.ensures.lookup.1,
      )
          (ends_more c.args.bodies.now c.args.outcomes.now c.args.lates.now before.i c.index-bodies-i.result
          c.in-Some.outcome.now before.ends.items c.loop-i-test.true c.in-Some.ensures.lookup.3.0
          ∙ before.invariant.ends);
      spelled = (all_left SpellsRequests c.args.bodies.now before.i c.index-bodies-i.result c.loop-i-test.true
          before.invariant.spelled).1;
      count = omega (arith, c.push_reserved.ensures.len, before.invariant.count);
      room = omega (arith, c.push_reserved.ensures.capacity, before.invariant.room);
    }
