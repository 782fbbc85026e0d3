use denote.Param.Send.{param_send, shr_send, struct_send}
use mir.Syntax.{named}
use Rattle.std.proofs.Common.{[], ◌∷◌}
use Rattle.hub_multiplexer.proofs.Shares.{hub_sync}
use Rattle.hub_multiplexer.proofs.seat.Seat.TheSendSync.{the_send as seat_send}
use Rattle.lane_tests.proofs.hub_multiplexer_tests.read_both.Lts as lts
use Rattle.lane_tests.proofs.hub_multiplexer_tests.read_both.Goals as goal

-- the closure holds the runtime, the hub and a seat
pub join-requires-send-F : goal.join-requires-send-F
join-requires-send-F g c κs within =
    param_send 1 (lts.arg-0-1 g.row.R g.row.L g.R.laws g.L.laws g.R.Threads g.R.Threads-dict g.R.Wait g.R.Wait-dict
    g.L.Link g.L.Link-dict κs) (record {
      owned = λ d vs. (struct_send (record { name = []; args = []; types = []; fields = _ ∷ _ ∷ _ ∷ [] }) (
        shr_send (named 0) _ _ c.type_bounds.sync-R,
        (shr_send (named 0) _ _ (hub_sync _ g.L.Link c.type_bounds.send-L), (seat_send, tt)),
      )).owned
          (d.0, (d.1, (d.2, tt))) vs;
      leaving = λ k x w. w;
    })
