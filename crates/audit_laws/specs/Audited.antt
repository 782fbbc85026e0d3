-- WHAT AN AUDIT SAYS OF A RUN: the text that a run prints over links that tell. Profile.
use Rattle.std.specs.Prelude.{◌≡◌, ◌⊎◌, ℕ, ◌<◌, ◌^◌, List, length, map, true, is_some}
use Rattle.std.specs.List.{AllByRecursion}
use Rattle.board_specs.specs.OpeningWords.{OpensOnWords}
use Rattle.board_history.specs.Links.{LinkReport}
use Rattle.run_laws.specs.Runs.{IsSessionRun}
use Rattle.script_steps.specs.declared.operation.Step.{Step}
use Rattle.script_lang.specs.declared.session.Session.{Session}
use Rattle.script_plans.specs.declared.board_run.BoardRun.{BoardRun}
use Rattle.transcript.specs.declared.line.OpLine.{OpLine}
use Rattle.transcript.specs.Lines.{Showing, Transcript}
use Rattle.transcript_reader.specs.declared.shown.Shown.{Shown}
use Rattle.transcript_reader.specs.Shown.{HaveNames}
use Rattle.run_audit.specs.declared.verdict.AuditWhy.TheVariants.{Partial}
use Rattle.run_audit.specs.declared.verdict.Verdict.{Verdict}
use Rattle.run_audit.specs.declared.verdict.Verdict.TheVariants.{Yes, No}
use Rattle.run_audit.specs.Verdicts.{CanBeAudited}

-- every link tells what its board did, as that of a simulated board does
abbrev pub AllTell : List LinkReport → Type 0
AllTell links = AllByRecursion (λ (link : LinkReport). is_some link.telling ≡ true) links

-- What the text of a run rests on, over links that tell.
pub record IsToldRun (session : Session) (steps : List (List Step)) (runs : List BoardRun) (links : List LinkReport)
    : Type 0 where
  pub can : CanBeAudited session steps
  pub names : HaveNames session.boards steps
  -- the ranges of boards name words of 32 bits
  pub words : AllByRecursion OpensOnWords session.boards
  pub few_rounds : session.settings.rounds < 2 ^ 8
  pub few_clients : length steps < 2 ^ 32
  pub run : IsSessionRun session steps runs links
  pub told : AllTell links

-- what the line of an operation shows
abbrev pub showing_in : OpLine → Showing
showing_in line = (line.result, line.places)

-- what a transcript shows of its session
abbrev pub shown_of : Transcript → Shown
shown_of transcript = record { clients = map (map showing_in) transcript.clients; boards = transcript.boards }

-- the transcript fits, but that it may show some places of an operation and not all
abbrev pub IsYesOrPartial : Verdict → Type 0
IsYesOrPartial verdict = (verdict ≡ Yes) ⊎ ((line : ℕ) × (verdict ≡ No line Partial))
