-- The first line whose result is not the one of the replay.
use Rattle.std.proofs.Common.{◌≡◌, ◌↔◌, ◌++◌, ◌+◌, ℕ, suc, refl, List, [], ◌∷◌, Some, None, length}
use Rattle.std.proofs.Common.{ap, arith, append_assoc, drop, take, subst, sym, ◌∙◌, map, take-append-drop}
use Rattle.std.specs.List.{AllByRecursion, AllZip, slice_get}
use Rattle.std.proofs.lemmas.Option.{same_Some, slice_get_within}
use Rattle.board_specs.specs.declared.spec.BoardSpec.{BoardSpec}
use Rattle.script_plans.specs.Claims.{Rises}
use Rattle.script_plans.specs.declared.board_run.BoardRun.{BoardRun}
use Rattle.script_plans.specs.declared.greeting.Greeting.{Greeting}
use Rattle.script_steps.specs.declared.operation.Step.{Step}
use Rattle.script_steps.specs.Rulings.{Asked, asked_operations}
use Rattle.transcript.specs.Lines.{Showing}
use Rattle.transcript_reader.specs.declared.shown.Shown.{Shown}
use Rattle.transcript_reader.specs.Entries.{CanShowIn}
use Rattle.transcript_reader.specs.Shown.{CanShowAll, greetings_in}
use Rattle.run_audit.specs.Agreeing.{IsUnreplayedAt}
use Rattle.run_audit.specs.Apart.{plans_in}
use Rattle.run_audit.specs.AskedLines.{AskedLine, asked_behind, asked_from, pieces_of}
use Rattle.run_audit.specs.Replay.{replay_of_board}
use Rattle.run_audit.specs.Replaying.{AreReplayed}
use Rattle.run_audit.specs.Results.{Agrees, IsReplayed}
use Rattle.run_audit.specs.Steps.{IsFirstBroken, planned_pieces, replays_from}
use Rattle.run_audit.specs.Unreplayed.{AgreesBy, board_ends, comes_to, ends_at, sent_in}
use Rattle.run_audit.proofs.Aligned.{present, told_long}
use Rattle.run_audit.proofs.ApartBodies.{run_pieces}
use Rattle.run_audit.proofs.FirstBroken.{first_same}
use Rattle.run_audit.proofs.InText.{HoldsAt, HoldsNowhere, all_behind, first_at, nowhere}
use Rattle.run_audit.proofs.Misplacing.{split_at}
use Rattle.run_audit.proofs.TextOrder.{ComesBefore, lines_rise}
use Rattle.run_audit.proofs.UnreplayedLines.{agrees_is, came, ended}

-- ---- what each line shows

module _ (told : List Greeting) where
  -- the operation shows what it can
  abbrev pub ShowsIt : AskedLine → Type 0
  ShowsIt asking = CanShowIn told asking.ask asking.shows

  behind_show : (line client : ℕ) (before asks : List Asked) (shows : List Showing)
      → AllZip (CanShowIn told) asks shows → AllByRecursion ShowsIt (asked_behind line client before asks shows)
  behind_show line client before [] shows all = tt
  behind_show line client before (ask ∷ asks) [] all = tt
  behind_show line client before (ask ∷ asks) (first ∷ shows) all =
      (all.0, behind_show (line + 1) client (before ++ ask ∷ []) asks shows all.1)

  both : (xs ys : List AskedLine) → AllByRecursion ShowsIt xs → AllByRecursion ShowsIt ys
      → AllByRecursion ShowsIt (xs ++ ys)
  both [] ys all also = also
  both (x ∷ xs) ys all also = (all.0, both xs ys all.1 also)

  all_show : (line client : ℕ) (scripts : List (List Step)) (clients : List (List Showing))
      → AllZip (CanShowAll told) scripts clients → AllByRecursion ShowsIt (asked_from line client scripts clients)
  all_show line client [] clients all = tt
  all_show line client (steps ∷ scripts) [] all = tt
  all_show line client (steps ∷ scripts) (shows ∷ clients) all =
      both (asked_behind (line + 1) client [] (asked_operations steps) shows)
      (asked_from (line + 1 + length (asked_operations steps)) (client + 1) scripts clients)
      (behind_show (line + 1) client [] (asked_operations steps) shows all.0)
      (all_show (line + 1 + length (asked_operations steps)) (client + 1) scripts clients all.1)

-- ---- the walk

module _ (rounds : ℕ) (boards : List BoardSpec) (scripts : List (List Step)) (shown : Shown) (runs : List BoardRun)
    (lines : List AskedLine) (are : AreReplayed boards scripts shown runs lines) where
  abbrev Told : List Greeting
  Told = greetings_in boards shown.boards

  shows_it : (before : List AskedLine) (asking : AskedLine) (behind : List AskedLine)
      → lines ≡ before ++ asking ∷ behind → ShowsIt Told asking
  shows_it before asking behind all =
      all_behind (ShowsIt Told) before asking behind
      (subst (AllByRecursion (ShowsIt Told)) (sym are.lines' ∙ all) (all_show Told 1 0 scripts shown.clients are.clients'))

  has_board : (asking : AskedLine) → ShowsIt Told asking
      → (spec : BoardSpec) × (slice_get boards asking.ask.op.board ≡ Some spec)
  has_board asking shows =
      let within = slice_get_within Told asking.ask.op.board shows.0 shows.1 in
      let long = told_long boards shown.boards are.boards' in
      present boards asking.ask.op.board (omega arith)

  only_board : (asking : AskedLine) (spec : BoardSpec) → slice_get boards asking.ask.op.board ≡ Some spec
      → IsReplayed rounds boards scripts lines asking
      ↔ Agrees rounds (pieces_of boards scripts asking) (replay_of_board boards scripts lines spec asking.ask.op.board) asking
      asking.shows.0
  only_board asking spec there = (
    λ is. is spec there,
    λ agrees other at. subst (λ s. Agrees rounds (pieces_of boards scripts asking)
        (replay_of_board boards scripts lines s asking.ask.op.board) asking asking.shows.0)
        (same_Some spec other (sym there ∙ at)) agrees,
  )

  -- what the code asks of a line by the boards as they are shown is what is asked of it
  by_boards : (asking : AskedLine) (spec : BoardSpec) → slice_get boards asking.ask.op.board ≡ Some spec
      → AgreesBy rounds (replays_from boards scripts lines 0 boards) asking
      ↔ Agrees rounds (pieces_of boards scripts asking) (replay_of_board boards scripts lines spec asking.ask.op.board) asking
      asking.shows.0
  by_boards asking spec there =
      let runs = replays_from boards scripts lines 0 boards in
      let ends = ends_at (map board_ends runs) asking.ask.op.board asking.client in
      agrees_is rounds (pieces_of boards scripts asking) (replay_of_board boards scripts lines spec asking.ask.op.board) asking
      (comes_to ends asking.ask.op (sent_in runs asking)) (came boards scripts lines asking spec there) ends
      (planned_pieces (plans_in runs) asking) asking.shows.0 (ended boards scripts lines asking spec there)
      (run_pieces boards scripts lines runs refl asking)

  replays : (asking : AskedLine) → ShowsIt Told asking
      → AgreesBy rounds runs asking ↔ IsReplayed rounds boards scripts lines asking
  replays asking shows =
      let board = has_board asking shows in
      let run = replay_of_board boards scripts lines board.0 asking.ask.op.board in
      let one : AgreesBy rounds runs asking
      ↔ Agrees rounds (pieces_of boards scripts asking) run asking asking.shows.0 =
      subst (λ (rs : List BoardRun). AgreesBy rounds rs asking
      ↔ Agrees rounds (pieces_of boards scripts asking) run asking asking.shows.0) (sym are.runs')
      (by_boards asking board.0 board.1) in
      let two = only_board asking board.0 board.1 in
      (λ agrees. two.1 (one.0 agrees), λ is. one.1 (two.0 is))

  -- the operation of a line is not replayed, whatever stands before it
  abbrev Wrong : List AskedLine → AskedLine → Type 0
  Wrong before asking = ¬ IsReplayed rounds boards scripts lines asking

  to_rule : (line : ℕ) → HoldsAt Wrong lines line → IsUnreplayedAt rounds boards scripts lines line
  to_rule line at = record {
    before = at.before;
    asking = at.asking;
    behind = at.behind;
    all = at.all;
    here = at.here;
    wrong = at.holds;
  }

  of_rule : (line : ℕ) → IsUnreplayedAt rounds boards scripts lines line → HoldsAt Wrong lines line
  of_rule line at = record {
    before = at.before;
    asking = at.asking;
    behind = at.behind;
    all = at.all;
    here = at.here;
    holds = at.wrong;
  }

  none_wrong : (i : ℕ) → AllByRecursion (AgreesBy rounds runs) (take i lines) → HoldsNowhere Wrong (take i lines)
  none_wrong i all before asking behind cut wrong =
      let whole : lines ≡ before ++ asking ∷ (behind ++ drop i lines) =
      sym (take-append-drop i lines)
      ∙ (ap (λ (front : List AskedLine). front ++ drop i lines) cut ∙ append_assoc before (asking ∷ behind) (drop i lines)) in
      wrong ((replays asking (shows_it before asking (behind ++ drop i lines) whole)).0
      (all_behind (AgreesBy rounds runs) before asking behind (subst (AllByRecursion (AgreesBy rounds runs)) cut all)))

  pub none_found : (i : ℕ) → take i lines ≡ lines → AllByRecursion (AgreesBy rounds runs) (take i lines)
      → IsFirstBroken (IsUnreplayedAt rounds boards scripts lines) None
  none_found i whole all =
      first_same (HoldsAt Wrong lines) (IsUnreplayedAt rounds boards scripts lines) to_rule of_rule None
      (nowhere Wrong lines (subst (HoldsNowhere Wrong) whole (none_wrong i all)))

  pub first_found : (i : ℕ) (asking : AskedLine) → slice_get lines i ≡ Some asking
      → AllByRecursion (AgreesBy rounds runs) (take i lines) → (AgreesBy rounds runs asking → ⊥)
      → IsFirstBroken (IsUnreplayedAt rounds boards scripts lines) (Some asking.line)
  first_found i asking at all wrong =
      let cut = split_at lines i asking at in
      first_same (HoldsAt Wrong lines) (IsUnreplayedAt rounds boards scripts lines) to_rule of_rule (Some asking.line)
      (first_at Wrong lines (take i lines) asking (drop (suc i) lines)
      (subst (Rises ComesBefore) (sym are.lines') (lines_rise scripts shown)) cut
      (λ is. wrong ((replays asking (shows_it (take i lines) asking (drop (suc i) lines) cut)).1 is))
      (none_wrong i all))
