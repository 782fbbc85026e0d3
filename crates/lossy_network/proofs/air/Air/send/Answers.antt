use Rattle.std.proofs.Common.{arith}
use Rattle.lossy_network.specs.Airs.{told_of}
use Rattle.lossy_network.proofs.Airs.{few_sends, sent_count}
use Rattle.lossy_network.proofs.air.Air.send.Goals as goal

pub put_send-requires : goal.put_send-requires
put_send-requires c =
    let i = c.self.inside in
    omega (arith, c.self.invariant.sent, few_sends (told_of i), c.are_few.ensures)

pub invariant_of-self-2 : goal.invariant_of-self-2
invariant_of-self-2 c =
    let i = c.self.inside in
    let is = c.self.invariant in
    record {
      first = is.first;
      sent = sent_count (told_of i) i.first i.sent c.in_ok-self-inside.field-0 c.args.bytes.now c.put_send.new.air
          is.first is.sent c.in_ok-self-inside.ensures.counted c.in_ok-self-inside.ensures.put;
    }
