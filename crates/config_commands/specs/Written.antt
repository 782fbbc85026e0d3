-- The text of the configuration of boards that a run wrote. Profile.
use Rattle.std.specs.Prelude.{◌≡◌, ℕ, List, [], ◌∷◌, is_some, true}
use Rattle.std.specs.List.{AllByRecursion}
use Rattle.ipb_base.specs.Lists.{IsPrefix}
use Rattle.board_specs.specs.declared.spec.LinkSpec.{LinkSpec}
use Rattle.board_history.specs.Links.{LinkReport}
use Rattle.script_steps.specs.declared.operation.Step.{Step}
use Rattle.script_lang.specs.declared.session.Session.{Session}
use Rattle.script_plans.specs.declared.board_run.BoardRun.{BoardRun}
use Rattle.transcript.specs.Lines.{client_lines, run_status, transcript_of}
use Rattle.run_laws.specs.Runs.{IsSessionRun}
use Rattle.session_run.specs.Links.{AreLeft, link_specs}
use Rattle.config_store.specs.Text.{state_text}
use Rattle.config_input.specs.Deserved.{IsReadFor}
use Rattle.config_input.specs.Work.{ConfigCommand}

-- every link tells what its board did, as that of a simulated board does
abbrev pub AllTell : List LinkReport → Type 0
AllTell links = AllByRecursion (λ (link : LinkReport). is_some link.telling ≡ true) links

-- Of the steps of the one client that a command runs, what the links that were given back show, the status and the text:
pub record IsWritten (session : Session) (steps : List Step) (links : List LinkReport) (status : ℕ) (text : List ℕ)
    : Type 0 where
  -- there is an outcome for each body that the steps ask of a board, such that it is a run of these steps over these
  -- links, with one order of bodies on each board, and all that the lines of such a run show
  pub runs : List BoardRun
  pub run : IsSessionRun session (steps ∷ []) runs links
  -- the text is that of the lines of the reads: for each board a table, in it the value of each register that was read,
  -- and a comment in place of each that was not
  pub spelled : text ≡ state_text session.boards (client_lines runs 0 steps)
  -- the status is 0 exactly where every line, of a write too, is a value or `done`
  pub told : status ≡ run_status (transcript_of (steps ∷ []) runs).clients

-- At every status: the bytes stand for a session by which the command runs these steps, links were made of the specs of
-- its first boards, in order, and the links are those of these boards, in order, each given back once; what was sent to
-- each board, and so what it executed, is a merge of bodies that the steps ask of it, in their order.
pub record RanSomeFor (command : ConfigCommand) (bytes : List ℕ) (specs : List LinkSpec) (links : List LinkReport)
    : Type 0 where
  pub session : Session
  pub steps : List (List Step)
  pub read : IsReadFor command bytes session steps
  pub first : IsPrefix specs (link_specs session.boards)
  pub left : AreLeft 0 session.boards steps links
