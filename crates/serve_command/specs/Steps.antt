-- How the steps of the call work together: what its private functions promise one another. No public clause speaks of
-- these.
use Rattle.std.specs.Prelude.{◌≡◌, ℕ, ◌<◌, ◌^◌, List, length, Result, Err, IfOk}
use Rattle.std.specs.List.{AllByRecursion}
use Rattle.board_specs.specs.declared.spec.LinkSpec.{LinkSpec}
use Rattle.board_history.specs.Links.{IsUntouched}
use Rattle.board_greeting.specs.Links.{AreMadeFor}
use Rattle.script_lang.specs.declared.session.Session.{Session}
use Rattle.session_run.specs.Links.{CanBeReached}
use Rattle.transcript.specs.declared.line.BoardLine.{BoardLine}
use Rattle.session_serve.specs.declared.report.ServeFault.{ServeFault}
use Rattle.session_serve.specs.declared.report.ServeFault.TheVariants.{Rack}
use Rattle.session_serve.specs.Boards.{AreLinksTo}
use Rattle.session_serve.specs.Serving.{AreBack, AreServed, HadMemory}
use Rattle.hub_session.specs.declared.served.Served.{Served}
use Rattle.serve_command.specs.Text.{serve_text, serve_status}
use Rattle.command_terms.specs.declared.answer.Answer.{Answer}
use Rattle.command_terms.specs.Outside.{GivenBack}

-- what serving at the boards of a session rests on
pub record MayServe (session : Session) : Type 0 where
  pub few_boards : length session.boards < 2 ^ 32
  pub reached : AllByRecursion CanBeReached session.boards

-- the text of connections and boards that were served
pub record ServesSession (session : Session) (count : ℕ) (given : GivenBack) (status : ℕ) (text : List ℕ) : Type 0 where
  pub connections : List Served
  pub lines : List BoardLine
  pub served : AreServed session.settings session.boards given.links given.came given.back connections lines
  pub all : length connections ≡ count
  pub memory : AllByRecursion HadMemory connections
  pub spelled : text ≡ serve_text connections lines
  pub told : status ≡ serve_status connections

-- What a server left: `made` and `makes` are the specs that the rack made links of before and after.
pub record ServeLeaves (session : Session) (count : ℕ) (made makes : List LinkSpec)
    (result : Result Answer ServeFault) (given : GivenBack) : Type 0 where
  pub linked : AreLinksTo session.boards given.links
  pub links_made : AreMadeFor session.boards given.links made makes
  pub back : AreBack given.came given.back
  pub serves : IfOk result (λ answer. ServesSession session count given answer.status answer.text.items)
  pub untouched : result ≡ Err Rack → AllByRecursion IsUntouched given.links
