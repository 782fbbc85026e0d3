use denote.Param.Send.{param_send, shr_send}
use mir.Syntax.{named}
use Rattle.std.proofs.Common.{[], ◌∷◌, arith}
use Rattle.std.proofs.lemmas.Grind.{common_steps}
use Rattle.std.proofs.Crossing.{send}
use Rattle.hub_multiplexer.proofs.Shares.{hub_sync}
use Rattle.session_serve.proofs.Shares.{fields_go}
use Rattle.session_serve.proofs.states.BoardStates.TheSendSync.{the_sync as states_sync}
use Rattle.session_serve.proofs.connection.Connection.TheSendSync.{the_send as connection_send}
use Rattle.session_serve.proofs.connection.begin.Lts as lts
use Rattle.session_serve.proofs.connection.begin.Goals as goal

-- the closure holds the runtime, the memory, the hub, the states of boards and the connection
pub spawn_with-requires-send-F : goal.spawn_with-requires-send-F
spawn_with-requires-send-F g c κs within =
    param_send 2 (lts.arg-1-2 g.row.E g.row.L g.row.S g.row.O g.row.T g.E.laws g.L.laws g.S.laws g.O.laws g.T.laws
    g.L.Link g.L.Link-dict g.S.Source g.S.Source-dict g.O.Sink g.O.Sink-dict g.T.Threads g.T.Threads-dict g.T.Wait
    g.T.Wait-dict g.S.Destruct-dict g.O.Destruct-dict κs) (record {
      owned = λ d vs. fields_go (_ ∷ _ ∷ _ ∷ _ ∷ _ ∷ []) (
        shr_send (named 0) _ _ c.type_bounds.sync-T,
        (
          send,
          (
            shr_send (named 0) _ _ (hub_sync _ g.L.Link c.type_bounds.send-L),
            (
              shr_send (named 0) _ _ states_sync,
              (connection_send _ _ c.type_bounds.send-S c.type_bounds.send-O, tt),
            ),
          ),
        ),
      ) (d.0, (d.1, (d.2, (d.3, (d.4, tt))))) vs;
      leaving = λ k x w. w;
    })

pub spawn_with-requires-in-Err-clause-lanes : goal.spawn_with-requires-in-Err-clause-lanes
spawn_with-requires-in-Err-clause-lanes g c κs within = rw c.in-Err.ensures.err c.requires.lanes

pub spawn_with-requires-in-Err-clause-seat : goal.spawn_with-requires-in-Err-clause-seat
spawn_with-requires-in-Err-clause-seat g c κs within = rw c.in-Err.ensures.err c.requires.seat

pub spawn_with-requires-in-Err-clause-unused : goal.spawn_with-requires-in-Err-clause-unused
spawn_with-requires-in-Err-clause-unused g c κs within = rw c.in-Err.ensures.err c.requires.unused

pub returns-in-Ok : goal.returns-in-Ok
returns-in-Ok g c = grind (arith, common_steps)

pub returns-in-Err : goal.returns-in-Err
returns-in-Err g c = grind (arith, common_steps)
