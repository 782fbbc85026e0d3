-- The lines of a replay stand beside the operations of a session.
use Rattle.std.proofs.Common.{◌≡◌, ◌++◌, ◌+◌, ◌<◌, ℕ, zero, suc, refl, List, [], ◌∷◌, Some, None, length, ap, sym, ◌∙◌, arith, subst}
use Rattle.std.specs.Prelude.{option_map, option_to_list}
use Rattle.std.specs.List.{AllByRecursion, AllZip, flat_map, slice_get}
use Rattle.std.proofs.lemmas.Option.{same_Some, slice_get_within}
use Rattle.board_specs.specs.declared.spec.BoardSpec.{BoardSpec}
use Rattle.script_plans.specs.declared.greeting.Greeting.{Greeting}
use Rattle.transcript.specs.declared.line.BoardLine.{BoardLine}
use Rattle.transcript_reader.specs.declared.shown.Shown.{Shown}
use Rattle.transcript_reader.specs.Entries.{CanShowIn, IsLineOf}
use Rattle.transcript_reader.specs.Shown.{CanShowAll, greetings_in}
use Rattle.script_steps.specs.declared.operation.Step.{Step}
use Rattle.script_steps.specs.Rulings.{Asked, allowed_operations, asked_operations}
use Rattle.script_plans.specs.declared.board_run.BoardRun.{BoardRun}
use Rattle.script_plans.specs.Plan.{count_on}
use Rattle.transcript.specs.Lines.{Showing, line_of, lines_behind, lines_from, shown_behind}
use Rattle.run_audit.specs.AskedLines as session
use Rattle.run_audit.specs.AskedLines.{AskedLine}
use Rattle.run_audit.specs.Replaying.{AreReplayed}
use Rattle.run_audit.specs.Steps.{replays_from}
use Rattle.run_audit.specs.Agreeing.{HasRun, HaveRuns, IsLineBeside}

zip_append : {A B : Type 0} (R : A → B → Type 0) (xs more : List A) (ys others : List B) → AllZip R xs ys
    → AllZip R more others → AllZip R (xs ++ more) (ys ++ others)
zip_append R [] more [] others one two = two
zip_append R [] more (y ∷ ys) others one two = absurd one
zip_append R (x ∷ xs) more [] others one two = absurd one
zip_append R (x ∷ xs) more (y ∷ ys) others one two = (one.0, zip_append R xs more ys others one.1 two)

module _ (runs : List BoardRun) where
  here : (line client : ℕ) (before : List Asked) (ask : Asked) (first : Showing) (run : BoardRun)
      → slice_get runs ask.op.board ≡ Some run
      → IsLineBeside runs (record {
        line = line;
        client = client;
        number = count_on ask.op.board (allowed_operations before);
        ask = ask;
        shows = first;
      }) (line_of client before ask run)
  here line client before ask first run there = λ other also free.
      let same : run ≡ other = same_Some run other (sym there ∙ also) in
      ap (λ denied. (shown_behind run client before ask.op denied).0) free
      ∙ ap (λ r. (shown_behind r client before ask.op None).0) same

  beside : (line client : ℕ) (before asks : List Asked) (shows : List Showing) → length shows ≡ length asks
      → AllByRecursion (HasRun runs) asks
      → AllZip (IsLineBeside runs) (session.asked_behind line client before asks shows)
      (lines_behind runs client before asks)
  beside line client before [] shows long all = tt
  beside line client before (ask ∷ asks) [] long all = absurd (omega arith)
  beside line client before (ask ∷ asks) (first ∷ shows) long all =
      let one : line_of client before ask all.0.0 ∷ []
      ≡ option_to_list (option_map (line_of client before ask) (slice_get runs ask.op.board)) =
      ap (λ o. option_to_list (option_map (line_of client before ask) o)) (sym all.0.1) in
      subst (λ l. AllZip (IsLineBeside runs) (session.asked_behind line client before (ask ∷ asks) (first ∷ shows))
      (l ++ lines_behind runs client (before ++ ask ∷ []) asks)) one (
        here line client before ask first all.0.0 all.0.1,
        beside (line + 1) client (before ++ ask ∷ []) asks shows (omega arith) all.1,
      )

  -- so those of all clients do
  pub all_beside : (line client : ℕ) (scripts : List (List Step)) (clients : List (List Showing))
      → AllZip (HaveRuns runs) scripts clients
      → AllZip (IsLineBeside runs) (session.asked_from line client scripts clients)
      (flat_map (λ lines. lines) (lines_from runs client scripts))
  all_beside line client [] clients all = tt
  all_beside line client (steps ∷ scripts) [] all = absurd all
  all_beside line client (steps ∷ scripts) (shows ∷ clients) all =
      zip_append (IsLineBeside runs) (session.asked_behind (line + 1) client [] (asked_operations steps) shows)
      (session.asked_from (line + 1 + length (asked_operations steps)) (client + 1) scripts clients)
      (lines_behind runs client [] (asked_operations steps))
      (flat_map (λ lines. lines) (lines_from runs (client + 1) scripts))
      (beside (line + 1) client [] (asked_operations steps) shows all.0.0 all.0.1)
      (all_beside (line + 1 + length (asked_operations steps)) (client + 1) scripts clients all.1)

-- ---- what a transcript shows

pub present : {A : Type 0} (xs : List A) (k : ℕ) → k < length xs → (x : A) × (slice_get xs k ≡ Some x)
present [] k within = absurd (omega arith)
present (x ∷ xs) zero within = (x, refl)
present (x ∷ xs) (suc k) within = present xs k (omega arith)

pub told_long : (boards : List BoardSpec) (lines : List BoardLine) → AllZip IsLineOf boards lines
    → length (greetings_in boards lines) ≡ length boards
told_long [] [] all = refl
told_long [] (line ∷ lines) all = absurd all
told_long (spec ∷ boards) [] all = absurd all
told_long (spec ∷ boards) (line ∷ lines) all = ap suc (told_long boards lines all.1)

runs_long : (boards : List BoardSpec) (scripts : List (List Step)) (lines : List AskedLine) (board : ℕ)
    (specs : List BoardSpec) → length (replays_from boards scripts lines board specs) ≡ length specs
runs_long boards scripts lines board [] = refl
runs_long boards scripts lines board (spec ∷ specs) = ap suc (runs_long boards scripts lines (board + 1) specs)

module _ (told : List Greeting) (runs : List BoardRun) (level : length told ≡ length runs) where
  have_run : (asks : List Asked) (shows : List Showing) → AllZip (CanShowIn told) asks shows
      → (length shows ≡ length asks) × AllByRecursion (HasRun runs) asks
  have_run [] [] all = (refl, tt)
  have_run [] (first ∷ shows) all = absurd all
  have_run (ask ∷ asks) [] all = absurd all
  have_run (ask ∷ asks) (first ∷ shows) all =
      let rest = have_run asks shows all.1 in
      let within = slice_get_within told ask.op.board all.0.0 all.0.1 in
      (ap suc rest.0, (present runs ask.op.board (omega arith), rest.1))

  have_runs : (scripts : List (List Step)) (clients : List (List Showing)) → AllZip (CanShowAll told) scripts clients
      → AllZip (HaveRuns runs) scripts clients
  have_runs [] [] all = tt
  have_runs [] (shows ∷ clients) all = absurd all
  have_runs (steps ∷ scripts) [] all = absurd all
  have_runs (steps ∷ scripts) (shows ∷ clients) all =
      (have_run (asked_operations steps) shows all.0, have_runs scripts clients all.1)

-- the lines of the replay of what is shown stand beside the operations
pub replay_beside : (boards : List BoardSpec) (scripts : List (List Step)) (shown : Shown) (runs : List BoardRun)
    (lines : List AskedLine) → AreReplayed boards scripts shown runs lines
    → AllZip (IsLineBeside runs) lines (flat_map (λ l. l) (lines_from runs 0 scripts))
replay_beside boards scripts shown runs lines are =
    let long : length (greetings_in boards shown.boards) ≡ length runs =
    told_long boards shown.boards are.boards'
    ∙ sym (ap length are.runs' ∙ runs_long boards scripts lines 0 boards) in
    subst (λ l. AllZip (IsLineBeside runs) l (flat_map (λ l. l) (lines_from runs 0 scripts))) (sym are.lines')
    (all_beside runs 1 0 scripts shown.clients
    (have_runs (greetings_in boards shown.boards) runs long scripts shown.clients are.clients'))
