use Rattle.std.proofs.Common.{arith}
use Rattle.capture_reader.proofs.AddedRows.{replies_added, replies_none}
use Rattle.capture_reader.proofs.describing.push_received.Goals as goal

pub returns-then-branch : goal.returns-then-branch
returns-then-branch c =
    replies_added c.args.item.now c.args.packet.now c.requires.of c.requires.kind c.as_slice.result.now
    c.args.out.now.items c.as_slice.ensures c.requires.received _ c.in_ok-push_replies_row.field-0
    c.in_ok-push_replies_row.ensures c.if-branch.true

pub returns : goal.returns
returns c =
    replies_none c.args.item.now c.args.packet.now c.requires.of c.requires.kind c.as_slice.result.now
    c.args.out.now.items c.as_slice.ensures c.push_raw.result c.requires.received _ _ _ _ c.len-start.result
    c.in_ok-push_replies_row.ensures c.if-branch.false (omega (arith, c.len-start.ensures)) c.truncate.ensures.items
    c.push_raw.ensures
