-- Each operation of a session, with what its line shows, is that of a line of the run.
use Rattle.std.proofs.Common.{◌≡◌, ℕ, suc, ◌+◌, ◌≤◌, List, [], ◌∷◌, ◌++◌, length, map, Option, Some, None}
use Rattle.std.proofs.Common.{option_to_list, refl, sym, ap, ◌∙◌, subst, arith}
use Rattle.std.specs.List.{AllByRecursion, slice_get}
use Rattle.std.specs.Option.{option_map}
use Rattle.std.proofs.lemmas.List.{length-map}
use Rattle.ipb_base.proofs.AllLemmas.{AllByRecursion-append}
use Rattle.script_steps.specs.declared.operation.Step.{Step}
use Rattle.script_steps.specs.Rulings.{Asked, allowed_operations, asked_operations}
use Rattle.script_plans.specs.declared.board_run.BoardRun.{BoardRun}
use Rattle.script_plans.specs.Plan.{count_on}
use Rattle.transcript.specs.declared.line.OpLine.{OpLine}
use Rattle.transcript.specs.Claims.{rule_in, rules_of, rules_shown}
use Rattle.transcript.specs.Lines.{client_lines, line_of, shown_behind, transcript_of}
use Rattle.transcript.specs.Lines.{lines_behind as printed_behind, lines_from as printed_from}
use Rattle.run_audit.specs.AskedLines.{AskedLine, asked_lines, asked_behind, asked_from}
use Rattle.audit_laws.specs.Audited.{showing_in, shown_of}

-- What is known of an operation and its line, where all lines of the run are so.
pub record IsShownLine (Q : OpLine → Type 0) (scripts : List (List Step)) (runs : List BoardRun) (asking : AskedLine)
    : Type 0 where
  pub script : List Step
  pub of_client : slice_get scripts asking.client ≡ Some script
  pub before : List Asked
  pub run : BoardRun
  pub there : slice_get runs asking.ask.op.board ≡ Some run
  pub counted : asking.number ≡ count_on asking.ask.op.board (allowed_operations before)
  pub shown : asking.shows ≡ shown_behind run asking.client before asking.ask.op asking.ask.denied
  pub holds : Q (line_of asking.client before asking.ask run)

module _ (runs : List BoardRun) (client : ℕ) where
  few_more : (before : List Asked) (ask : Asked) (found : Option BoardRun) (later : List OpLine) (most : ℕ)
      → length later ≤ most
      → length (option_to_list (option_map (line_of client before ask) found) ++ later) ≤ suc most
  few_more before ask None later most few = omega (arith, few)
  few_more before ask (Some run) later most few = omega (arith, few)

  -- an operation has a line at most
  few_lines : (before asks : List Asked) → length (printed_behind runs client before asks) ≤ length asks
  few_lines before [] = omega arith
  few_lines before (ask ∷ asks) = few_more before ask (slice_get runs ask.op.board)
      (printed_behind runs client (before ++ ask ∷ []) asks) (length asks) (few_lines (before ++ ask ∷ []) asks)

module _ (Q : OpLine → Type 0) (scripts : List (List Step)) (runs : List BoardRun) where
  -- ---- the lines of a client

  module _ (client : ℕ) (script : List Step) (at : slice_get scripts client ≡ Some script) where
    -- each operation has its line, so the first line is that of the first operation
    line_shown : (line : ℕ) (before : List Asked) (ask : Asked) (asks : List Asked) (found : Option BoardRun)
        (later : List OpLine) → slice_get runs ask.op.board ≡ found → length later ≤ length asks
        → length (option_to_list (option_map (line_of client before ask) found) ++ later) ≡ suc (length asks)
        → AllByRecursion Q (option_to_list (option_map (line_of client before ask) found) ++ later)
        → (length later ≡ length asks → AllByRecursion Q later → AllByRecursion (IsShownLine Q scripts runs)
        (asked_behind (line + 1) client (before ++ ask ∷ []) asks (map showing_in later)))
        → AllByRecursion (IsShownLine Q scripts runs) (asked_behind line client before (ask ∷ asks)
        (map showing_in (option_to_list (option_map (line_of client before ask) found) ++ later)))
    line_shown line before ask asks None later there few same all rest = absurd (omega (arith, few, same))
    line_shown line before ask asks (Some run) later there few same all rest = (
      record {
        script = script;
        of_client = at;
        before = before;
        run = run;
        there = there;
        counted = refl;
        shown = refl;
        holds = all.0;
      },
      rest (omega (arith, same)) all.1,
    )

    lines_shown : (line : ℕ) (before asks : List Asked)
        → length (printed_behind runs client before asks) ≡ length asks
        → AllByRecursion Q (printed_behind runs client before asks) → AllByRecursion (IsShownLine Q scripts runs)
        (asked_behind line client before asks (map showing_in (printed_behind runs client before asks)))
    lines_shown line before [] same all = tt
    lines_shown line before (ask ∷ asks) same all =
        line_shown line before ask asks (slice_get runs ask.op.board)
        (printed_behind runs client (before ++ ask ∷ []) asks) refl
        (few_lines runs client (before ++ ask ∷ []) asks) same all
        (λ rest_same rest_all. lines_shown (line + 1) (before ++ ask ∷ []) asks rest_same rest_all)

  -- ---- the lines of all clients

  clients_shown : (line client : ℕ) (rest : List (List Step))
      → ((j : ℕ) (script : List Step) → slice_get rest j ≡ Some script → slice_get scripts (client + j) ≡ Some script)
      → map rules_shown (printed_from runs client rest) ≡ map rules_of rest
      → AllByRecursion (AllByRecursion Q) (printed_from runs client rest)
      → AllByRecursion (IsShownLine Q scripts runs)
      (asked_from line client rest (map (map showing_in) (printed_from runs client rest)))
  clients_shown line client [] at rules all = tt
  clients_shown line client (steps ∷ rest) at rules all =
      let lines = client_lines runs client steps in
      let none : client + 0 ≡ client = omega arith in
      let first : rules_shown lines ≡ rules_of steps = cc in
      let others : map rules_shown (printed_from runs (client + 1) rest) ≡ map rules_of rest = cc in
      let same : length lines ≡ length (asked_operations steps) =
      sym (length-map lines (λ (shown : OpLine). rule_in shown.result)) ∙ ap length first
      ∙ length-map (asked_operations steps) (λ (ask : Asked). ask.denied) in
      AllByRecursion-append (IsShownLine Q scripts runs)
      (asked_behind (line + 1) client [] (asked_operations steps) (map showing_in lines))
      (asked_from (line + 1 + length (asked_operations steps)) (client + 1) rest
      (map (map showing_in) (printed_from runs (client + 1) rest)))
      (lines_shown client steps (subst (λ (c : ℕ). slice_get scripts c ≡ Some steps) none (at 0 steps refl)) (line + 1)
      [] (asked_operations steps) same all.0)
      (clients_shown (line + 1 + length (asked_operations steps)) (client + 1) rest
      (λ j script there.
      let next : client + suc j ≡ client + 1 + j = omega arith in
      subst (λ (c : ℕ). slice_get scripts c ≡ Some script) next (at (suc j) script there))
      others all.1)

  -- Where the lines tell the rules that deny their operations, each operation has its line.
  pub asked_lines_shown : map rules_shown (transcript_of scripts runs).clients ≡ map rules_of scripts
      → AllByRecursion (AllByRecursion Q) (transcript_of scripts runs).clients
      → AllByRecursion (IsShownLine Q scripts runs) (asked_lines scripts (shown_of (transcript_of scripts runs)))
  asked_lines_shown rules all = clients_shown 1 0 scripts
      (λ j script there.
      let same : j ≡ 0 + j = omega arith in
      subst (λ (c : ℕ). slice_get scripts c ≡ Some script) same there)
      rules all
