use Rattle.std.proofs.Common.{subst, List, ℕ, length, ◌+◌, ◌≤◌, ap}
use Rattle.std.specs.List.{AllByRecursion}
use Rattle.circular_buffer.specs.Buffer.{Buffer}
use Rattle.packet_codec.specs.declared.packet.Packet.{Packet}
use Rattle.ipb_base.specs.Numbers.{ip_udp_bytes}
use Rattle.world_model.specs.Board.{Board, hear}
use Rattle.board_node.specs.Answers.{answer_bytes}
use Rattle.board_node.specs.View.{board_of, FitsMtu}
use Rattle.board_node.proofs.Fitting.{answer_fits}
use Rattle.board_node.proofs.board.Board.answers_fit.Goals as goal

pub returns : goal.returns
returns c =
    let i = c.self.inside in
    let is = c.self.invariant in
    subst (λ (b : Board). (datagram : List ℕ) → length (answer_bytes (hear b datagram).answer) + ip_udp_bytes ≤ b.mtu)
    c.self.view_is
    (answer_fits c.a_reply_has_room.ensures (board_of i) is.mtu
    (subst (AllByRecursion (FitsMtu i.mtu)) (ap (λ (ring : Buffer Packet). ring.items) is.kept) is.fit))
