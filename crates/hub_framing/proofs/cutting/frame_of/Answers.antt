use Rattle.std.proofs.Common.{rules, arith}
use Rattle.hub_framing.specs.Frames.{RequestFrame}
use Rattle.hub_framing.proofs.FrameLemmas.{front_is}
use Rattle.hub_framing.proofs.cutting.frame_of.Goals as goal

pub returns : goal.returns
returns c =
    let frame : RequestFrame = record { board = c.word_at_front-board.result; packet = c.in_ok-packet.packet.items } in
    front_is c.args.bytes.now c.args.count frame (λ i. omega (arith, c.type_inv.bytes i)) c.requires (search rules)
    (search rules)
