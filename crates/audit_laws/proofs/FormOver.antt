-- The transcript of runs over links that tell is one of their session.
use Rattle.std.proofs.Common.{◌≡◌, ℕ, ◌+◌, ◌<◌, ◌^◌, true, length, map, List, [], Some, sym, ap, ◌∙◌, subst, arith}
use Rattle.std.proofs.Common.{is_some}
use Rattle.std.specs.List.{AllByRecursion, slice_get}
use Rattle.std.specs.Option.{option_map_or}
use Rattle.board_specs.specs.declared.spec.BoardSpec.{BoardSpec}
use Rattle.board_specs.specs.OpeningWords.{OpensOnWords}
use Rattle.world_model.specs.Settings.{Limits}
use Rattle.script_steps.specs.declared.operation.Step.{Step}
use Rattle.script_steps.specs.Executable.{AreExecutable}
use Rattle.script_steps.specs.Packing.{HaveFewPieces}
use Rattle.script_plans.specs.declared.greeting.Greeting.TheVariants.{Live}
use Rattle.script_plans.specs.declared.board_run.BoardRun.{BoardRun}
use Rattle.transcript.specs.declared.line.OpLine.{OpLine}
use Rattle.transcript.specs.Claims.{rules_of, rules_shown}
use Rattle.transcript.specs.Lines.{Transcript, board_line, lines_from, transcript_of}
use Rattle.transcript.specs.Text.{transcript_text}
use Rattle.transcript_reader.specs.Entries.{IsHere, name_at}
use Rattle.transcript_reader.specs.Shown.{IsShownBy, greeting_in, greetings_in}
use Rattle.board_history.specs.Links.{LinkReport}
use Rattle.board_history.specs.LinkRuns.{AreRunsOver, IsRunOver}
use Rattle.audit_laws.specs.Audited.{shown_of}
use Rattle.audit_laws.proofs.FormBoards.{IsAt, IsLive, Laws, ask_can, board_at, is_live, lines_are}
use Rattle.audit_laws.proofs.FormLines.{Look, all_can, clients_are}

module _ (laws : Laws) (settings : Limits) (boards : List BoardSpec) (scripts : List (List Step))
    (runs : List BoardRun) (links : List LinkReport) (few_rounds : settings.rounds < 2 ^ 8)
    (few_clients : length scripts < 2 ^ 32) (can : AllByRecursion AreExecutable scripts)
    (few_pieces : AllByRecursion HaveFewPieces scripts) (here : AllByRecursion IsHere boards)
    (words : AllByRecursion OpensOnWords boards)
    (told : AllByRecursion (λ (link : LinkReport). is_some link.telling ≡ true) links)
    (over : AreRunsOver settings 0 boards scripts runs links)
    (denied : map rules_shown (lines_from runs 0 scripts) ≡ map rules_of scripts) where
  at_position : (k : ℕ) (run : BoardRun) → slice_get runs k ≡ Some run → IsAt settings boards scripts 0 k runs run
  at_position k run at = board_at settings 0 boards scripts runs links over here words told k run at

  over_at : (k : ℕ) (run : BoardRun) → (is : IsAt settings boards scripts 0 k runs run)
      → IsRunOver settings is.spec k scripts run is.link
  over_at k run is =
      let zeroth : 0 + k ≡ k = omega arith in
      subst (λ (b : ℕ). IsRunOver settings is.spec b scripts run is.link) zeroth is.over

  names : (k : ℕ) (run : BoardRun) → slice_get runs k ≡ Some run → name_at boards k ≡ run.name
  names k run at =
      let is = at_position k run at in
      ap (λ found. option_map_or (λ (spec : BoardSpec). spec.name) found []) is.there
      ∙ sym is.over.scripts'.name

  look : Look (greetings_in boards (map board_line runs)) scripts runs
  look client steps before later ask run at same cut there =
      let is = at_position ask.op.board run there in
      let live : (payload : ℕ) → run.greeting ≡ Live payload → IsLive is.spec ask.op.board scripts run payload =
      λ payload greeted.
      is_live laws settings few_rounds scripts few_clients can few_pieces is.spec ask.op.board run is.link payload
      (over_at ask.op.board run is) is.here is.words is.tells greeted in (
        greeting_in is.spec (board_line run),
        is.greeted,
        ask_can laws scripts is.spec run client steps before later ask.op ask.denied live at same cut,
      )

  of_clients : List (List OpLine) → Transcript
  of_clients clients = record { clients = clients; boards = map board_line runs }

  pub over_links : IsShownBy boards scripts (transcript_text (transcript_of scripts runs))
      (shown_of (transcript_of scripts runs))
  unfolding of_clients
  over_links = record {
    spelled = ap (λ clients. transcript_text (of_clients clients)) (clients_are boards runs names 0 scripts denied);
    clients' = all_can (greetings_in boards (map board_line runs)) scripts runs look can denied;
    boards' = lines_are laws settings few_rounds scripts few_clients can few_pieces 0 boards runs links over here words
        told;
  }
