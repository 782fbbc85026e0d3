-- What the code of a world keeps while it runs, and what each step of it does. No public contract speaks of these.
use Rattle.std.specs.Prelude.{◌≡◌, ℕ, ◌≤◌, List, take, drop, Option, Some, None, Result, Ok, Err}
use Rattle.std.specs.List.{AllByRecursion}
use Rattle.reliable_engine.specs.Answers.{body_count}
use Rattle.world_model.specs.declared.datagram.Datagram.{Datagram}
use Rattle.world_model.specs.declared.moves.WorldEnd.{WorldEnd}
use Rattle.world_model.specs.declared.sending.Sending.{Sending}
use Rattle.world_model.specs.Messages.{to_hub}
use Rattle.world_model.specs.Hub.{Hub, take_message}
use Rattle.world_model.specs.World.{World, board_hears, flush, run_moves, sent_into, with_hub}
use Rattle.world_model.specs.Sends.{pending}
use Rattle.world_model.specs.History.{IsMove}
use Rattle.world_model.specs.declared.moves.WorldMove.{WorldMove}
use Rattle.world_model.specs.Facts.{AreSendable}
use Rattle.world_core.specs.declared.run.Run.{Run}

-- each body of a hub has a spelling as a control packet
pub record HasSpellings (hub : Hub) : Type 0 where
  pub sent : AreSendable hub.sent
  pub queue : AreSendable hub.queue

abbrev pub world_of : Run → World
world_of run = record {
  board = run.board;
  hub = run.hub;
  air = run.air;
  fates = run.fates.items;
  lates = run.lates.items;
}

-- a send joins the air; the hub has counted it before
abbrev pub put_into : World → Sending → World
put_into w send = sent_into w (record { send = send; hub = w.hub })

-- whether a datagram may be heard, or why not
abbrev pub end_of : Result (List ℕ) WorldEnd → Result (Unit {0}) WorldEnd
end_of (Ok bytes) = Ok tt
end_of (Err end) = Err end

-- the hub hears a datagram, and has sent nothing since
abbrev pub hub_told : World → Option Datagram → World
hub_told w None = w
hub_told w (Some datagram) = with_hub w (take_message w.hub (to_hub datagram.bytes))

abbrev pub board_told : World → Option Datagram → World
board_told w None = w
board_told w (Some datagram) = board_hears w datagram.bytes

-- what is left to send leads to the same world, and the bodies are those of before
pub record IsFlushing (begin now : World) : Type 0 where
  pub flushed : flush (pending now.hub) now ≡ flush (pending begin.hub) begin
  pub spellings : HasSpellings now.hub
  pub counted : body_count now.hub ≤ body_count begin.hub

-- this many of the moves led there, and what is left of them leads on as all of them lead
pub record IsRunning (begin : World) (moves : List WorldMove) (at : ℕ) (now : World) : Type 0 where
  pub same : run_moves at now (drop at moves) ≡ run_moves 0 begin moves
  pub sendable : AllByRecursion IsMove (take at moves)
  pub spellings : HasSpellings now.hub
  pub counted : body_count now.hub ≤ at
