-- What laws of the crates below say of boards that were served, put together. No public clause speaks of it.
use Rattle.std.specs.Prelude.{ℕ, List}
use Rattle.std.specs.List.{AllByRecursion}
use Rattle.ipb_outside.specs.Pairs.{PairReport}
use Rattle.board_history.specs.Links.{LinkReport}
use Rattle.script_lang.specs.declared.session.Session.{Session}
use Rattle.script_lang.specs.Document.{IsSession}
use Rattle.toml.specs.Data.{Members}
use Rattle.board_specs.specs.OpeningWords.{OpensOnWords}
use Rattle.transcript.specs.declared.line.BoardLine.{BoardLine}
use Rattle.board_specs.specs.declared.spec.BoardSpec.{BoardSpec}
use Rattle.world_model.specs.Settings.{Limits}
use Rattle.client_history.specs.Boards.{AreServedOver, ServedBoard}
use Rattle.hub_session.specs.declared.served.Served.{Served}
use Rattle.session_serve.specs.Boards.{states_of}
use Rattle.session_serve.specs.Serving.{AreServed, HadMemory}
use Rattle.serve_command.specs.Answers.{AllTellAnswers, HasWrittenAll}
use Rattle.serve_command.specs.Frames.{HasUnaskedCodes, OfEachBoard, OfEachFrame}
use Rattle.serve_command.specs.Ruled.{AreCodedByRules}
use Rattle.serve_command.specs.Serving.{AreAnsweredRightly, AreServedRightly}

-- what follows for the boards of a session that were served, and for the numbers of answers
pub record ServeLaws : Type 0 where
  pub rightly : (document : Members) (session : Session) (boards : List ServedBoard) (links : List LinkReport)
      → IsSession document session → AreServedOver session.settings session.boards boards links
      → AreServedRightly session.settings session.boards boards links
  pub numbers : (settings : Limits) (specs : List BoardSpec) (links : List LinkReport) (came back : List PairReport)
      (connections : List Served) (lines : List BoardLine)
      (is : AreServed settings specs links came back connections lines)
      → AllByRecursion HadMemory connections → AllByRecursion HasWrittenAll connections
      → AllTellAnswers (states_of is.boards) is.conversations 0 lines
  pub frames : (document : Members) (session : Session) (links : List LinkReport) (came back : List PairReport)
      (connections : List Served) (lines : List BoardLine)
      (is : AreServed session.settings session.boards links came back connections lines) → IsSession document session
      → OfEachBoard (AreAnsweredRightly session.settings (states_of is.boards) is.conversations) session.boards links
  pub unasked : (settings : Limits) (specs : List BoardSpec) (links : List LinkReport) (came back : List PairReport)
      (connections : List Served) (lines : List BoardLine)
      (is : AreServed settings specs links came back connections lines)
      → OfEachFrame (HasUnaskedCodes specs (states_of is.boards)) is.conversations
  pub ruled : (settings : Limits) (specs : List BoardSpec) (links : List LinkReport) (came back : List PairReport)
      (connections : List Served) (lines : List BoardLine)
      (is : AreServed settings specs links came back connections lines)
      → (position : ℕ) → AreCodedByRules is.boards is.conversations position

-- the ranges of a session name words
abbrev pub RangesNameWords : Type 0
RangesNameWords =
    (document : Members) (session : Session) → IsSession document session
    → AllByRecursion OpensOnWords session.boards
