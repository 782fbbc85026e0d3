use Rattle.std.proofs.Common.{List, length, get_or, ap, ◌∙◌, arith}
use Rattle.capture_reader.specs.declared.capture.Caught.{Caught}
use Rattle.capture_reader.proofs.Places.{walk_on, grown}
use Rattle.capture_reader.proofs.executed.proved.Goals as goal

pub loop-item-preserved : goal.loop-item-preserved
loop-item-preserved c = record {
  few = omega (
    arith,
    c.sent_after-sent.ensures,
    grown c.args.capture.now.first c.loop-item.sent c.item-item.result,
    c.loop-item.invariant.few,
  );
  walk = walk_on c.args.capture.now.first c.args.capture.now.items c.loop-item.sent c.loop-item.place
      c.shown_by.result c.max-place.result c.sent_after-sent.result c.loop-item.item-index c.item-item.result
      (omega (arith, c.loop-item-test.true, ap length c.as_slice-item-items.ensures))
      (c.item-item.is ∙ ap (λ (items : List Caught). get_or items c.loop-item.item-index c.item-item.result)
      c.as_slice-item-items.ensures)
      c.loop-item.invariant.walk c.shown_by.ensures (omega (arith, c.max-place.ensures)) c.sent_after-sent.ensures;
}
