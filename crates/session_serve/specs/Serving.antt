-- What serving connections at the boards of a document does. Profile.
use Rattle.std.specs.Prelude.{◌≡◌, ◌≢◌, ℕ, List, map}
use Rattle.ipb_outside.specs.Pairs.{PairReport}
use Rattle.board_specs.specs.declared.spec.BoardSpec.{BoardSpec}
use Rattle.world_model.specs.Settings.{Limits}
use Rattle.script_plans.specs.declared.greeting.Greeting.{Greeting}
use Rattle.transcript.specs.declared.line.BoardLine.{BoardLine}
use Rattle.board_history.specs.Links.{LinkReport}
use Rattle.hub_lane.specs.declared.answers.BoardState.{BoardState}
use Rattle.hub_session.specs.declared.served.Served.{Served}
use Rattle.hub_session.specs.declared.served.SessionEnd.TheVariants as ends
use Rattle.client_history.specs.Boards.{AreServedOver, ServedBoard}
use Rattle.client_history.specs.Planned.{KeepLimits}
use Rattle.session_serve.specs.Boards.{IsLiveAt, lines_of, states_from, states_of}
use Rattle.session_serve.specs.Connections.{Conversation, HaveExchanged, WereServed, submissions_to}
use Rattle.session_serve.specs.Refusals.{AreFilledBefore, AreFramesByRules}

-- Connections were served at these boards: the links show this after it, and the pairs showed this before and after.
-- The lines of the connections and of the boards are what is reported.
pub record AreServed (settings : Limits) (specs : List BoardSpec) (links : List LinkReport)
    (came back : List PairReport) (connections : List Served) (lines : List BoardLine) : Type 0 where
  pub boards : List ServedBoard
  pub conversations : List Conversation
  -- What is shown of each board is what its link bears out.
  pub over_links : AreServedOver settings specs boards links
  -- The line of each board tells that.
  pub lines' : lines ≡ lines_of specs boards
  -- Each connection was served under a seat of its own, where the boards stand as their greetings told, and its line is
  -- what it came to.
  pub exchanged : HaveExchanged (states_of boards) 1 conversations came back connections
  -- What each board was asked, and what became of it, is what each connection exchanged with it.
  pub asked : map (λ (b : ServedBoard). b.connections) boards
      ≡ map (λ (state : BoardState). map (submissions_to (states_of boards) state) conversations) (states_of boards)
  -- A body for a live board was refused only by the payload that the board told, or where the connections filled its
  -- lane.
  pub by_rules : (position payload lane : ℕ) (board : ServedBoard) → IsLiveAt boards position payload lane board
      → AreFramesByRules payload board.connections (states_of boards) lane conversations
  -- Where the connections filled its lane, they had done so before that frame of their own.
  pub filled_before : (position payload lane : ℕ) (board : ServedBoard) → IsLiveAt boards position payload lane board
      → AreFilledBefore board.connections (states_of boards) lane conversations
  -- The bodies that connections submitted to a live board are no more than a lane takes.
  pub limits : (position payload lane : ℕ) (board : ServedBoard) → IsLiveAt boards position payload lane board
      → KeepLimits board.connections

-- Whatever came of it, each pair that came was served, where boards stood so.
pub record AreBackFrom (boards : List BoardState) (came back : List PairReport) : Type 0 where
  pub served : List Served
  pub each : WereServed boards 1 came back served

-- The same, where boards stood as some list of greetings would have it, with the lanes of the live ones numbered in
-- order. Nothing ties that list to the boards of a session: it is AreServed that does.
abbrev pub AreBack : List PairReport → List PairReport → Type 0
AreBack came back = (told : List Greeting) × AreBackFrom (states_from 0 told) came back

-- a connection that did not end with want of memory
abbrev pub HadMemory : Served → Type 0
HadMemory served = served.end ≢ ends.NoMemory
