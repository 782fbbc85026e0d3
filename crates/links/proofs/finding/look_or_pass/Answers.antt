use Rattle.std.proofs.Common.{[], ◌∷◌}
use Rattle.links.specs.Finds.{Dropped, Ended}
use Rattle.links.specs.Sockets.{Look, Receive}
use Rattle.links.proofs.Sockets.{more_calls}
use Rattle.links.proofs.finding.look_or_pass.Goals as goal

pub returns-in-Signal : goal.returns-in-Signal
returns-in-Signal g c = let looked = c.in-Signal.ensures in (Ended looked.0, looked.2, looked.1)

pub returns-in-Elsewhere : goal.returns-in-Elsewhere
returns-in-Elsewhere g c =
    let told = g.S.DatagramSocket.told in
    let looked = c.in-Elsewhere.ensures in
    let dropped = c.drop_next.ensures in (
      Dropped looked.0 dropped.0,
      looked.2,
      more_calls (Look looked.0 ∷ []) (Receive dropped.0 ∷ []) (told c.args.socket.now) (told c.look.new.socket)
          (told c.drop_next.new.socket) looked.1 dropped.1,
    )
