-- The lines of a transcript, by the operations of its session.
use Rattle.std.proofs.Common.{◌≡◌, ℕ, suc, ◌+◌, ◌≤◌, length, map, List, [], ◌∷◌, ◌++◌, Option, Some, None, refl, sym}
use Rattle.std.proofs.Common.{ap, ◌∙◌, subst, inl, inr, arith, append_assoc, length-append}
use Rattle.std.specs.List.{AllByRecursion, AllZip, cons_option, slice_get}
use Rattle.std.proofs.lemmas.List.{length-map}
use Rattle.std.proofs.lemmas.Option.{slice_get_cases}
use Rattle.mtu_packer.specs.Cutting.{CanBeCut}
use Rattle.board_specs.specs.declared.spec.BoardSpec.{BoardSpec}
use Rattle.script_steps.specs.declared.operation.RegOp.{RegOp}
use Rattle.script_steps.specs.declared.operation.Step.{Step}
use Rattle.script_steps.specs.declared.operation.Step.TheVariants.{Do, Denied, Dispatch}
use Rattle.script_steps.specs.Executable.{AreExecutable, CanBeDone}
use Rattle.script_steps.specs.Rulings.{Asked, asked_operations, asked_in}
use Rattle.script_plans.specs.declared.greeting.Greeting.{Greeting}
use Rattle.script_plans.specs.declared.board_run.BoardRun.{BoardRun}
use Rattle.transcript.specs.declared.line.OpLine.{OpLine}
use Rattle.transcript.specs.Claims.{rules_of, rules_shown}
use Rattle.transcript.specs.Lines.{client_lines, line_of, line_with, lines_behind, lines_from, shown_behind}
use Rattle.transcript_reader.specs.Entries.{CanShowIn, name_at}
use Rattle.transcript_reader.specs.Shown.{CanShowAll, clients_under, lines_under}
use Rattle.board_history.proofs.Asking.{heads}
use Rattle.audit_laws.specs.Audited.{showing_in}

-- ---- operations that can be cut

abbrev pub CutUnlessDenied : RegOp → Option ℕ → Type 0
CutUnlessDenied op None = CanBeCut op.op
CutUnlessDenied op (Some rule) = Unit {0}

-- an operation that no rule denies can be cut
abbrev pub IsCut : Asked → Type 0
IsCut ask = CutUnlessDenied ask.op ask.denied

step_cut : (step : Step) (asks : List Asked) → CanBeDone step → AllByRecursion IsCut asks
    → AllByRecursion IsCut (cons_option (asked_in step) asks)
step_cut (Do op) asks can all = (can.cut', all)
step_cut (Denied rule op) asks can all = (tt, all)
step_cut Dispatch asks can all = all

steps_cut : (steps : List Step) → AreExecutable steps → AllByRecursion IsCut (asked_operations steps)
steps_cut [] can = tt
steps_cut (step ∷ steps) can = step_cut step (asked_operations steps) can.0 (steps_cut steps can.1)

-- ---- operations on boards that are there

abbrev IsThere : List BoardRun → Asked → Type 0
IsThere runs ask = (run : BoardRun) × (slice_get runs ask.op.board ≡ Some run)

module _ (runs : List BoardRun) (client : ℕ) where
  few_lines : (before asks : List Asked) → length (lines_behind runs client before asks) ≤ length asks
  few_lines before [] = omega arith
  few_lines before (ask ∷ asks) =
      let later = few_lines (before ++ ask ∷ []) asks in
      elim (slice_get_cases runs ask.op.board).1 [
        | inl (run, within, there, again) ↦ rw there (omega (arith, later))
        | inr (past, none) ↦ rw none (omega (arith, later))
      ]

  -- where there are as many lines as operations, each operation is on a board that is there
  all_there : (before asks : List Asked) → length (lines_behind runs client before asks) ≡ length asks
      → AllByRecursion (IsThere runs) asks
  all_there before [] long = tt
  all_there before (ask ∷ asks) long =
      let rest = lines_behind runs client (before ++ ask ∷ []) asks in
      elim (slice_get_cases runs ask.op.board).1 [
        | inl (run, within, there, again) ↦
            (let one : suc (length rest) ≡ suc (length asks) = rw there at long in
            ((run, there), all_there (before ++ ask ∷ []) asks (omega (arith, one))))
        | inr (past, none) ↦
            (let one : length rest ≡ suc (length asks) = rw none at long in
            absurd (omega (arith, one, few_lines (before ++ ask ∷ []) asks)))
      ]

-- a client's lines show a rule or none for each operation
client_there : (runs : List BoardRun) (client : ℕ) (steps : List Step)
    → rules_shown (client_lines runs client steps) ≡ rules_of steps → AllByRecursion (IsThere runs) (asked_operations steps)
client_there runs client steps same =
    all_there runs client [] (asked_operations steps)
    (sym (length-map (client_lines runs client steps) _) ∙ ap length same ∙ length-map (asked_operations steps) _)

-- ---- the lines are those of what they show

module _ (boards : List BoardSpec) (runs : List BoardRun)
    (names : (k : ℕ) (run : BoardRun) → slice_get runs k ≡ Some run → name_at boards k ≡ run.name) where
  lines_are : (client : ℕ) (before asks : List Asked) → AllByRecursion (IsThere runs) asks
      → lines_behind runs client before asks
      ≡ lines_under boards (length before + 1) asks (map showing_in (lines_behind runs client before asks))
  lines_are client before [] there = refl
  lines_are client before (ask ∷ asks) there =
      let run = there.0.0 in
      let rest = lines_behind runs client (before ++ ask ∷ []) asks in
      let next : length (before ++ ask ∷ []) + 1 ≡ length before + 1 + 1 =
      omega (arith, length-append before (ask ∷ [])) in
      let later : rest ≡ lines_under boards (length before + 1 + 1) asks (map showing_in rest) =
      lines_are client (before ++ ask ∷ []) asks there.1
      ∙ ap (λ (n : ℕ). lines_under boards n asks (map showing_in rest)) next in
      let shows = shown_behind run client before ask.op ask.denied in
      let line : line_of client before ask run
      ≡ line_with (length before + 1) ask.op (name_at boards ask.op.board) shows =
      ap (λ (name : List ℕ). line_with (length before + 1) ask.op name shows)
      (sym (names ask.op.board run there.0.1)) in
      rw there.0.1 (
      ap (λ (first : OpLine). first ∷ rest) line
      ∙ ap (λ (others : List OpLine). line_with (length before + 1) ask.op (name_at boards ask.op.board) shows ∷ others)
      later)

  pub clients_are : (client : ℕ) (scripts : List (List Step))
      → map rules_shown (lines_from runs client scripts) ≡ map rules_of scripts
      → lines_from runs client scripts
      ≡ clients_under boards scripts (map (map showing_in) (lines_from runs client scripts))
  clients_are client [] same = refl
  clients_are client (steps ∷ scripts) same =
      let both = heads (rules_shown (client_lines runs client steps)) (rules_of steps)
      (map rules_shown (lines_from runs (client + 1) scripts)) (map rules_of scripts) same in
      let here = lines_are client [] (asked_operations steps) (client_there runs client steps both.head) in
      let rest = lines_from runs (client + 1) scripts in
      ap (λ (first : List OpLine). first ∷ rest) here
      ∙ ap (λ (others : List (List OpLine)).
      lines_under boards 1 (asked_operations steps) (map showing_in (client_lines runs client steps)) ∷ others)
      (clients_are (client + 1) scripts both.tail)

-- ---- each operation shows what it can

-- what an operation of a client shows behind others
abbrev pub Look : List Greeting → List (List Step) → List BoardRun → Type 0
Look told scripts runs =
    (client : ℕ) (steps : List Step) (before later : List Asked) (ask : Asked) (run : BoardRun)
    → slice_get scripts client ≡ Some steps → before ++ ask ∷ later ≡ asked_operations steps → IsCut ask
    → slice_get runs ask.op.board ≡ Some run → CanShowIn told ask (shown_behind run client before ask.op ask.denied)

module _ (told : List Greeting) (scripts : List (List Step)) (runs : List BoardRun) (look : Look told scripts runs)
  where
    lines_can : (client : ℕ) (steps : List Step) → slice_get scripts client ≡ Some steps → (before asks : List Asked)
        → before ++ asks ≡ asked_operations steps → AllByRecursion IsCut asks → AllByRecursion (IsThere runs) asks
        → AllZip (CanShowIn told) asks (map showing_in (lines_behind runs client before asks))
    lines_can client steps at before [] same cut there = tt
    lines_can client steps at before (ask ∷ asks) same cut there =
        rw there.0.1 (
          look client steps before asks ask there.0.0 at same cut.0 there.0.1,
          lines_can client steps at (before ++ ask ∷ []) asks (append_assoc before (ask ∷ []) asks ∙ same) cut.1
              there.1,
        )

    clients_can : (client : ℕ) (rest : List (List Step))
        → ((j : ℕ) (steps : List Step) → slice_get rest j ≡ Some steps → slice_get scripts (client + j) ≡ Some steps)
        → AllByRecursion AreExecutable rest → map rules_shown (lines_from runs client rest) ≡ map rules_of rest
        → AllZip (CanShowAll told) rest (map (map showing_in) (lines_from runs client rest))
    clients_can client [] at can same = tt
    clients_can client (steps ∷ rest) at can same =
        let both = heads (rules_shown (client_lines runs client steps)) (rules_of steps)
        (map rules_shown (lines_from runs (client + 1) rest)) (map rules_of rest) same in
        let first : client + 0 ≡ client = omega arith in (
          lines_can client steps (subst (λ (c : ℕ). slice_get scripts c ≡ Some steps) first (at 0 steps refl)) []
              (asked_operations steps) refl (steps_cut steps can.0) (client_there runs client steps both.head),
          clients_can (client + 1) rest
              (λ j s h.
              let next : client + suc j ≡ client + 1 + j = omega arith in
              subst (λ (c : ℕ). slice_get scripts c ≡ Some s) next (at (suc j) s h)) can.1 both.tail,
        )

    pub all_can : AllByRecursion AreExecutable scripts
        → map rules_shown (lines_from runs 0 scripts) ≡ map rules_of scripts
        → AllZip (CanShowAll told) scripts (map (map showing_in) (lines_from runs 0 scripts))
    all_can can same = clients_can 0 scripts
        (λ j steps h.
        let zeroth : j ≡ 0 + j = omega arith in
        subst (λ (c : ℕ). slice_get scripts c ≡ Some steps) zeroth h)
        can same
