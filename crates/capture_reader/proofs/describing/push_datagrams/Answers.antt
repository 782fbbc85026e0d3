use Rattle.capture_reader.proofs.RowLaws.{one_text_more, all_texts}
use Rattle.capture_reader.proofs.describing.push_datagrams.Goals as goal

pub loop-item-preserved : goal.loop-item-preserved
loop-item-preserved c =
    one_text_more c.args.items.now c.item-item.result c.loop-item.item-index c.args.out.now.items c.loop-item.out.items
    _ c.loop-item-test.true c.item-item.is c.loop-item.invariant c.in_ok-room.ensures

pub returns : goal.returns
returns c =
    all_texts c.args.items.now c.loop-item.item-index c.args.out.now.items c.loop-item.out.items
    c.loop-item-test.false c.loop-item.invariant
