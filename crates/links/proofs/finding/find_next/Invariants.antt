-- what was gone past so far
use Rattle.std.proofs.Common.{ℕ}
use Rattle.links.specs.Sockets.{place_of}
use Rattle.links.proofs.GonePast.{GonePast}
use Rattle.links.proofs.finding.find_next.Given as goal

abbrev pub invariant-loop-past : goal.invariant-loop-past
invariant-loop-past g l =
    let told = g.S.DatagramSocket.told in
    GonePast (place_of l.board) (told l.fn.socket) (told l.socket) l._past
