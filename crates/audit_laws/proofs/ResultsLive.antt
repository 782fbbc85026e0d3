-- The line of an operation on a live board agrees with the replay of the board.
use Rattle.std.proofs.Common.{◌≡◌, ℕ, ◌+◌, List, [], Option, Some, sym, ap, ◌∙◌, subst, arith}
use Rattle.std.specs.Prelude.{unwrap_or}
use Rattle.std.specs.List.{AllByRecursion, slice_get}
use Rattle.std.specs.Option.{option_map_or}
use Rattle.std.proofs.lemmas.Option.{same_Some}
use Rattle.board_bus.specs.Bodies.{replay}
use Rattle.board_specs.specs.declared.spec.BoardSpec.{BoardSpec}
use Rattle.world_model.proofs.Lists.{get_map}
use Rattle.lane_record.specs.declared.outcome.Outcome.{Outcome}
use Rattle.lane_record.specs.Lists.{CountsFrom}
use Rattle.lane_record.specs.Outcomes.{place_of}
use Rattle.script_steps.specs.declared.operation.Step.{Step}
use Rattle.script_plans.specs.declared.board_run.BoardRun.{BoardRun}
use Rattle.script_plans.specs.declared.board_run.ClientPart.{ClientPart}
use Rattle.script_plans.specs.declared.greeting.Greeting.{Greeting}
use Rattle.script_plans.specs.declared.greeting.Greeting.TheVariants.{Live, Down}
use Rattle.script_plans.specs.declared.planned.PieceAt.{PieceAt}
use Rattle.script_plans.specs.Plan.{ClientBodies, planned_on, plans_on}
use Rattle.transcript.specs.Ends.{ends_of}
use Rattle.transcript.specs.Lines.{Showing}
use Rattle.transcript.specs.Results.{op_result}
use Rattle.board_history.specs.History.{bodies_by_client, outcomes_by_client}
use Rattle.board_history.specs.Order.{Placed, bodies_in, order, places_of}
use Rattle.board_history.specs.Parts.{AreBeside, IsLateReplyOf, IsReplyOf}
use Rattle.board_history.specs.Runs.{greeting_of, opens_with}
use Rattle.board_history.proofs.Lists.{all_at}
use Rattle.board_history.specs.LinkRuns.{IsUngarbledResult, ShowsRounds}
use Rattle.run_audit.specs.AskedLines.{AskedLine, asked_of, greeting_at, pieces_shown}
use Rattle.run_audit.specs.Replay.{place_shown, replay_of_board, shown_order}
use Rattle.run_audit.specs.Results.{Agrees}
use Rattle.audit_laws.proofs.ResultsBoards.{IsToldBoard, beside_at, part_again, part_at, shows_live}
use Rattle.audit_laws.proofs.ResultsMatching.{matching_agrees}
use Rattle.audit_laws.proofs.ResultsReplay.{pieces_match}

-- What lines show of the places of a board: the place of each body, so that the bodies stand in the order of the board.
pub record ArePlaced (boards : List BoardSpec) (scripts : List (List Step)) (lines : List AskedLine) (board : ℕ)
    (run : BoardRun) : Type 0 where
  pub places' : (client k : ℕ) (part : ClientPart) (outcome : Outcome) → slice_get run.parts client ≡ Some part
      → slice_get part.outcomes k ≡ Some outcome
      → place_shown (pieces_shown boards scripts board lines) client k ≡ place_of outcome
  pub ordered : shown_order (pieces_shown boards scripts board lines) (plans_on board run.greeting scripts)
      ≡ order (bodies_by_client run) (outcomes_by_client run)

-- what a client asks of a board is what it asked of the run
pub asked_planned : (boards : List BoardSpec) (scripts : List (List Step)) (spec : BoardSpec) (board client : ℕ)
    (run : BoardRun) (payload : ℕ) (script : List Step) (part : ClientPart) → slice_get boards board ≡ Some spec
    → IsToldBoard spec board scripts run payload → slice_get scripts client ≡ Some script
    → slice_get run.parts client ≡ Some part → asked_of boards scripts board client ≡ part.planned
asked_planned boards scripts spec board client run payload script part there is of_client at =
    let greeting : greeting_at boards board ≡ greeting_of spec.link =
    ap (λ (o : Option BoardSpec). option_map_or (λ (s : BoardSpec). greeting_of s.link) o Down) there in
    let planned : Some (planned_on board (greeting_of spec.link) script) ≡ Some part.planned =
    sym (get_map (planned_on board (greeting_of spec.link)) scripts client script of_client)
    ∙ ap (λ (ps : List ClientBodies). slice_get ps client) (sym is.plans)
    ∙ get_map (λ (p : ClientPart). p.planned) run.parts client part at in
    ap (λ (g : Greeting). planned_on board g (unwrap_or (slice_get scripts client) [])) greeting
    ∙ ap (λ (o : Option (List Step)). planned_on board (greeting_of spec.link) (unwrap_or o [])) of_client
    ∙ same_Some (planned_on board (greeting_of spec.link) script) part.planned planned

module _ (boards : List BoardSpec) (scripts : List (List Step)) (lines : List AskedLine) (spec : BoardSpec)
    (asking : AskedLine) (run : BoardRun) (payload : ℕ) (live : run.greeting ≡ Live payload)
    (is : IsToldBoard spec asking.ask.op.board scripts run payload)
    (placed : ArePlaced boards scripts lines asking.ask.op.board run) where
  order_again : List Placed
  order_again = shown_order (pieces_shown boards scripts asking.ask.op.board lines)
      (plans_on asking.ask.op.board (greeting_of spec.link) scripts)

  same_order : order_again ≡ order (bodies_by_client run) (outcomes_by_client run)
  unfolding order_again
  same_order =
      let pieces = pieces_shown boards scripts asking.ask.op.board lines in
      ap (λ (g : Greeting). shown_order pieces (plans_on asking.ask.op.board g scripts)) (is.greeting ∙ sym live)
      ∙ placed.ordered

  pub live_agrees : (rounds : ℕ) (part : ClientPart) (pieces : List PieceAt)
      → slice_get run.parts asking.client ≡ Some part → slice_get part.planned.pieces asking.number ≡ Some pieces
      → IsUngarbledResult (op_result (ends_of part) asking.ask.op pieces)
      → ShowsRounds rounds (op_result (ends_of part) asking.ask.op pieces)
      → Agrees rounds pieces (replay_of_board boards scripts lines spec asking.ask.op.board) asking
      (op_result (ends_of part) asking.ask.op pieces)
  unfolding order_again
  live_agrees rounds part pieces at has clear told =
      let board = asking.ask.op.board in
      let client = asking.client in
      let opening = opens_with spec.link in
      let shown = pieces_shown boards scripts board lines in
      let plans = plans_on board (greeting_of spec.link) scripts in
      let again = replay_of_board boards scripts lines spec board in
      let part' = part_again opening order_again shown client part.planned in
      let planned : slice_get plans client ≡ Some part.planned =
      ap (λ (ps : List ClientBodies). slice_get ps client) (sym is.plans)
      ∙ get_map (λ (p : ClientPart). p.planned) run.parts client part at in
      let at_again : slice_get again.parts client ≡ Some part' =
      part_at opening order_again shown plans client part.planned planned in
      let counts : CountsFrom 1 (places_of order_again) =
      subst (λ (o : List Placed). CountsFrom 1 (places_of o)) (sym same_order) is.one_order in
      let replies : AllByRecursion (IsReplyOf (replay opening (bodies_in order_again)).replies) part.outcomes =
      subst (λ (o : List Placed). AllByRecursion (IsReplyOf (replay opening (bodies_in o)).replies) part.outcomes)
      (sym same_order)
      (all_at (AllByRecursion (IsReplyOf (replay opening (bodies_in (order (bodies_by_client run)
      (outcomes_by_client run)))).replies)) (outcomes_by_client run) client part.outcomes is.replies
      (get_map (λ (p : ClientPart). p.outcomes) run.parts client part at)) in
      let late : AreBeside (IsLateReplyOf (replay opening (bodies_in order_again)).replies) part.outcomes part.lates =
      subst (λ (o : List Placed). AreBeside (IsLateReplyOf (replay opening (bodies_in o)).replies) part.outcomes
      part.lates) (sym same_order)
      (beside_at (IsLateReplyOf (replay opening (bodies_in (order (bodies_by_client run)
      (outcomes_by_client run)))).replies) (λ (p : ClientPart). p.outcomes) (λ (p : ClientPart). p.lates) run.parts
      client part is.late at) in
      let places : (j : ℕ) (outcome : Outcome) → slice_get part.outcomes j ≡ Some outcome
      → place_shown shown client (0 + j) ≡ place_of outcome =
      λ j outcome there.
      let same : 0 + j ≡ j = omega arith in
      ap (place_shown shown client) same ∙ placed.places' client j part outcome at there in
      matching_agrees rounds pieces again asking (ends_of part) (ends_of part')
      (ap (λ (o : Option ClientPart). option_map_or ends_of o []) at_again)
      (ap (λ (s : Showing). s.0)
      (shows_live again payload client asking.number asking.ask.op part' pieces is.greeting at_again has))
      (pieces_match opening order_again counts shown client part.planned.bodies part.outcomes part.lates places replies
      late pieces)
      clear told
