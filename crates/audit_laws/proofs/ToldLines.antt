-- What each line of a run shows of its operation.
use Rattle.std.proofs.Common.{◌≡◌, ℕ, zero, suc, ◌+◌, ◌<◌, ◌≤◌, ◌==◌, cond, List, [], ◌∷◌, ◌++◌, length, map}
use Rattle.std.proofs.Common.{Option, Some, None, option_to_list, refl, sym, ap, subst, ◌∙◌, inl, inr, arith}
use Rattle.std.proofs.Common.{length-append}
use Rattle.std.specs.List.{AllByRecursion, Any, slice_get}
use Rattle.std.specs.Option.{option_map}
use Rattle.std.proofs.lemmas.Bool.{cases_Bool, cases_lt, eqb-true}
use Rattle.std.proofs.lemmas.List.{length-map}
use Rattle.std.proofs.lemmas.List.Sums.{sum_by-cons}
use Rattle.ipb_base.proofs.AllLemmas.{AllByRecursion-append}
use Rattle.mtu_packer.proofs.AnyLemmas.{any_here, any_later, any_front, any_back}
use Rattle.script_steps.specs.declared.operation.RegOp.{RegOp}
use Rattle.script_steps.specs.declared.operation.Step.{Step}
use Rattle.script_steps.specs.Rulings.{Asked, asked_operations, allowed_operations}
use Rattle.script_plans.specs.declared.board_run.BoardRun.{BoardRun}
use Rattle.script_plans.specs.Plan.{count_on, operations}
use Rattle.script_plans.proofs.Covering.{count_by-append}
use Rattle.transcript.specs.Claims.{rules_of, rules_shown}
use Rattle.transcript.specs.Lines.{Showing, showing, shown_behind, denied_by, line_of, client_lines}
use Rattle.transcript.specs.Lines as printed
use Rattle.transcript.proofs.Allowed.{allowed-append, asked_allowed}
use Rattle.run_audit.specs.AskedLines.{AskedLine, asked_behind, asked_from}
use Rattle.audit_laws.specs.Audited.{showing_in}

-- ---- what is told

abbrev pub told_unless : Option ℕ → Showing → Showing
told_unless None shows = shows
told_unless (Some rule) shows = denied_by rule

-- what the run of its board tells of an operation
abbrev pub told_of : BoardRun → AskedLine → Showing
told_of run asking = told_unless asking.ask.denied (showing run asking.client asking.number asking.ask.op)

pub record IsTold (runs : List BoardRun) (asking : AskedLine) : Type 0 where
  pub run : BoardRun
  pub there : slice_get runs asking.ask.op.board ≡ Some run
  pub shows' : asking.shows ≡ told_of run asking

behind_told : (run : BoardRun) (client : ℕ) (before : List Asked) (op : RegOp) (denied : Option ℕ)
    → shown_behind run client before op denied
    ≡ told_unless denied (showing run client (count_on op.board (allowed_operations before)) op)
behind_told run client before op None = refl
behind_told run client before op (Some rule) = refl

-- ---- the lines of a client

one_line : (before : List Asked) (client : ℕ) (ask : Asked) (found : Option BoardRun)
    → length (option_to_list (option_map (line_of client before ask) found)) ≤ 1
one_line before client ask None = omega arith
one_line before client ask (Some run) = omega arith

module _ (runs : List BoardRun) where
  -- there are no more lines than operations
  few_lines : (client : ℕ) (before asks : List Asked)
      → length (printed.lines_behind runs client before asks) ≤ length asks
  few_lines client before [] = omega arith
  few_lines client before (ask ∷ asks) =
      let here = option_to_list (option_map (line_of client before ask) (slice_get runs ask.op.board)) in
      let rest = printed.lines_behind runs client (before ++ ask ∷ []) asks in
      omega (
        arith,
        length-append here rest,
        one_line before client ask (slice_get runs ask.op.board),
        few_lines client (before ++ ask ∷ []) asks,
      )

  next_told : (line client : ℕ) (before : List Asked) (ask : Asked) (asks : List Asked) (found : Option BoardRun)
      → slice_get runs ask.op.board ≡ found
      → length (option_to_list (option_map (line_of client before ask) found)
      ++ printed.lines_behind runs client (before ++ ask ∷ []) asks) ≡ suc (length asks)
      → (length (printed.lines_behind runs client (before ++ ask ∷ []) asks) ≡ length asks
      → AllByRecursion (IsTold runs) (asked_behind (line + 1) client (before ++ ask ∷ []) asks
      (map showing_in (printed.lines_behind runs client (before ++ ask ∷ []) asks))))
      → AllByRecursion (IsTold runs) (asked_behind line client before (ask ∷ asks)
      (map showing_in (option_to_list (option_map (line_of client before ask) found)
      ++ printed.lines_behind runs client (before ++ ask ∷ []) asks)))
  next_told line client before ask asks None at count later =
      absurd (omega (arith, few_lines client (before ++ ask ∷ []) asks))
  next_told line client before ask asks (Some run) at count later = (
    record { run = run; there = at; shows' = behind_told run client before ask.op ask.denied },
    later (omega arith),
  )

  client_told : (line client : ℕ) (before asks : List Asked)
      → length (printed.lines_behind runs client before asks) ≡ length asks
      → AllByRecursion (IsTold runs) (asked_behind line client before asks
      (map showing_in (printed.lines_behind runs client before asks)))
  client_told line client before [] count = tt
  client_told line client before (ask ∷ asks) count =
      next_told line client before ask asks (slice_get runs ask.op.board) refl count
      (client_told (line + 1) client (before ++ ask ∷ []) asks)

  -- where lines show the rules of their operations there is one for each operation
  counted : (client : ℕ) (steps : List Step) → rules_shown (client_lines runs client steps) ≡ rules_of steps
      → length (client_lines runs client steps) ≡ length (asked_operations steps)
  counted client steps rules =
      sym (length-map (client_lines runs client steps) _) ∙ ap length rules ∙ length-map (asked_operations steps) _

  pub all_told : (line client : ℕ) (scripts : List (List Step))
      → map rules_shown (printed.lines_from runs client scripts) ≡ map rules_of scripts
      → AllByRecursion (IsTold runs)
      (asked_from line client scripts (map (map showing_in) (printed.lines_from runs client scripts)))
  all_told line client [] rules = tt
  all_told line client (steps ∷ scripts) rules =
      let first : rules_shown (client_lines runs client steps) ≡ rules_of steps = cc in
      let rest : map rules_shown (printed.lines_from runs (client + 1) scripts) ≡ map rules_of scripts = cc in
      AllByRecursion-append (IsTold runs)
      (asked_behind (line + 1) client [] (asked_operations steps) (map showing_in (client_lines runs client steps)))
      (asked_from (line + 1 + length (asked_operations steps)) (client + 1) scripts
      (map (map showing_in) (printed.lines_from runs (client + 1) scripts)))
      (client_told (line + 1) client [] (asked_operations steps) (counted client steps first))
      (all_told (line + 1 + length (asked_operations steps)) (client + 1) scripts rest)

-- ---- each operation has a line

-- the line of operation `number` of those of a client on a board that no rule denies
pub record IsAskedFor (client board number : ℕ) (asking : AskedLine) : Type 0 where
  pub client' : asking.client ≡ client
  pub board' : asking.ask.op.board ≡ board
  pub number' : asking.number ≡ number
  pub allowed' : asking.ask.denied ≡ None

module _ (client board number : ℕ) where
  abbrev IsLater : List Asked → List Asked → Type 0
  IsLater before asks =
      (line : ℕ) (shows : List Showing) → length shows ≡ length asks → count_on board (allowed_operations before) ≤ number
      → number < count_on board (allowed_operations before) + count_on board (allowed_operations asks)
      → Any (IsAskedFor client board number) (asked_behind line client before asks shows)

  both_counted : (before : List Asked) (ask : Asked) → count_on board (allowed_operations (before ++ ask ∷ []))
      ≡ count_on board (allowed_operations before) + count_on board (allowed_operations (ask ∷ []))
  both_counted before ask =
      ap (count_on board) (allowed-append before (ask ∷ []))
      ∙ count_by-append (λ (o : RegOp). o.board == board) (allowed_operations before) (allowed_operations (ask ∷ []))

  one_counted : (op : RegOp) (ops : List RegOp)
      → count_on board (op ∷ ops) ≡ cond (op.board == board) 1 0 + count_on board ops
  one_counted op ops = sum_by-cons (λ (o : RegOp). cond (o.board == board) 1 0) op ops

  next_there : (before : List Asked) (op : RegOp) (denied : Option ℕ) (asks : List Asked)
      → IsLater (before ++ record { op = op; denied = denied } ∷ []) asks
      → IsLater before (record { op = op; denied = denied } ∷ asks)
  next_there before op denied asks later line [] count low high = absurd (omega arith)
  next_there before op (Some rule) asks later line (first ∷ shows) count low high =
      let ask : Asked = record { op = op; denied = Some rule } in
      any_later (IsAskedFor client board number) _ _
      (later (line + 1) shows (omega arith) (omega (arith, both_counted before ask))
      (omega (arith, both_counted before ask)))
  next_there before op None asks later line (first ∷ shows) count low high =
      let ask : Asked = record { op = op; denied = None } in
      let longer = both_counted before ask in
      let last = one_counted op [] in
      let all = one_counted op (allowed_operations asks) in
      elim (cases_Bool (op.board == board)) [
        | inl here ↦
            let same : op.board ≡ board = eqb-true op.board board here in
            let one : cond {A = ℕ} (op.board == board) 1 0 ≡ 1 = ap (λ b. cond {A = ℕ} b 1 0) here in
            elim (cases_lt (count_on board (allowed_operations before)) number) [
              | inl less ↦ any_later (IsAskedFor client board number) _ _
                  (later (line + 1) shows (omega arith) (omega arith) (omega arith))
              | inr more ↦ any_here (IsAskedFor client board number) _ _
                  (record {
                    client' = refl;
                    board' = same;
                    number' = ap (λ b. count_on b (allowed_operations before)) same ∙ omega arith;
                    allowed' = refl;
                  })
            ]
        | inr away ↦
            let none : cond {A = ℕ} (op.board == board) 1 0 ≡ 0 = ap (λ b. cond {A = ℕ} b 1 0) away in
            any_later (IsAskedFor client board number) _ _
            (later (line + 1) shows (omega arith) (omega arith) (omega arith))
      ]

  client_there : (before asks : List Asked) → IsLater before asks
  client_there before [] = λ line shows count low high. absurd (omega arith)
  client_there before (ask ∷ asks) =
      next_there before ask.op ask.denied asks (client_there (before ++ ask ∷ []) asks)

pub asked_there : (runs : List BoardRun) (line first : ℕ) (scripts : List (List Step)) (client : ℕ) (steps : List Step)
    (board number : ℕ) → map rules_shown (printed.lines_from runs first scripts) ≡ map rules_of scripts
    → slice_get scripts client ≡ Some steps → number < count_on board (operations steps)
    → Any (IsAskedFor (first + client) board number)
    (asked_from line first scripts (map (map showing_in) (printed.lines_from runs first scripts)))
asked_there runs line first [] client steps board number rules at within = absurd cc
asked_there runs line first (script ∷ scripts) zero steps board number rules at within =
    let same : script ≡ steps = cc in
    let none : first ≡ first + 0 = omega arith in
    let head : rules_shown (client_lines runs first script) ≡ rules_of script = cc in
    any_front (IsAskedFor (first + 0) board number) _ _
    (subst (λ n. Any (IsAskedFor n board number) (asked_behind (line + 1) first [] (asked_operations script)
    (map showing_in (client_lines runs first script)))) none
    (client_there first board number [] (asked_operations script) (line + 1) (map showing_in (client_lines runs first script))
    (length-map (client_lines runs first script) showing_in ∙ counted runs first script head) (omega arith)
    (omega (
      arith,
      ap (count_on board) (asked_allowed script),
      ap (λ (s : List Step). count_on board (operations s)) same,
    ))))
asked_there runs line first (script ∷ scripts) (suc client) steps board number rules at within =
    let tail : map rules_shown (printed.lines_from runs (first + 1) scripts) ≡ map rules_of scripts = cc in
    let next : first + 1 + client ≡ first + suc client = omega arith in
    any_back (IsAskedFor (first + suc client) board number) _ _
    (subst (λ n. Any (IsAskedFor n board number) (asked_from (line + 1 + length (asked_operations script)) (first + 1) scripts
    (map (map showing_in) (printed.lines_from runs (first + 1) scripts)))) next
    (asked_there runs (line + 1 + length (asked_operations script)) (first + 1) scripts client steps board number tail at within))
