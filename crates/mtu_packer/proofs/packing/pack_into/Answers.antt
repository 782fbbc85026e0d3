use Rattle.std.proofs.Common.{refl}
use Rattle.mtu_packer.proofs.Whole.{over_within}
use Rattle.mtu_packer.proofs.Finish.{answer_packed, packed_operations, packed_room}
use Rattle.mtu_packer.proofs.packing.pack_into.Goals as goal

pub push_ops-requires : goal.push_ops-requires
push_ops-requires c =
    let new_is = c.new-packer.ensures in
    record {
      fresh = rw new_is refl;
      payload_low = rw new_is c.requires.payload_low;
      payload_high = rw new_is c.requires.payload_high;
      sound = c.requires.sound;
      few = rw new_is c.requires.few;
    }

pub finish-requires-clause-spans : goal.finish-requires-clause-spans
finish-requires-clause-spans c =
    over_within c.args.ops.now c.args.payload c.push_ops.new.packer c.in_ok-spans.spans.items
    (rw c.new-packer.ensures at c.in_ok-spans.ensures.packed)

pub returns : goal.returns
returns c =
    let done = c.finish.ensures in
    let over = rw c.new-packer.ensures at c.in_ok-spans.ensures.packed in
    let packed = answer_packed c.args.ops.now c.args.payload c.push_ops.new.packer c.in_ok-spans.spans.items
    c.requires.payload_low c.requires.payload_high over c.finish.result done.bodies done.words done.pieces in
    record {
      packed = packed;
      operations = packed_operations c.args.ops.now c.args.payload c.finish.result packed;
      room = packed_room c.args.ops.now c.args.payload c.finish.result packed done.words;
    }
