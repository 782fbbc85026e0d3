-- what was gone past so far
use Rattle.std.proofs.Common.{ℕ}
use Rattle.links.specs.Sockets.{place_of}
use Rattle.std_edges.proofs.Hearing.{GonePast}
use Rattle.std_edges.proofs.heard.hear_board.Given as goal

abbrev pub invariant-loop-past : goal.invariant-loop-past
invariant-loop-past g l = GonePast (place_of l.board) l.fn.socket l.socket l._past
