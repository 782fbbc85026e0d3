-- The lines of a client alone whose operations are of one word each, and were all done.
use Rattle.std.proofs.Common.{◌≡◌, ℕ, zero, suc, ◌+◌, ◌<◌, ◌==◌, cond, true, false, List, [], ◌∷◌, ◌++◌, length}
use Rattle.std.proofs.Common.{Option, Some, None, option_to_list, inl, inr, refl, sym, ap, ◌∙◌, subst, arith, append_assoc}
use Rattle.std.proofs.Common.{append-nil}
use Rattle.std.specs.Prelude.{is_some}
use Rattle.std.specs.List.{AllByRecursion, slice_get}
use Rattle.std.specs.Option.{option_map}
use Rattle.std.proofs.lemmas.Bool.{cases_Bool, eq-eqb, eqb-true}
use Rattle.std.proofs.lemmas.List.Sums.{sum_by-cons}
use Rattle.std.proofs.lemmas.Option.{same_Some}
use Rattle.ipb_base.proofs.AllLemmas.{back_of_all}
use Rattle.transaction_codec.specs.declared.request.Op.{Op}
use Rattle.board_bus.specs.Cells.{CellMap}
use Rattle.board_bus.specs.Transactions.{outcome}
use Rattle.board_specs.specs.declared.spec.BoardSpec.{BoardSpec}
use Rattle.board_specs.specs.OpeningWords.{OpensOnWords}
use Rattle.world_model.specs.Settings.{Limits}
use Rattle.script_steps.specs.declared.operation.RegOp.{RegOp}
use Rattle.script_steps.specs.declared.operation.Step.{Step}
use Rattle.script_steps.specs.declared.operation.Step.TheVariants.{Do, Denied, Dispatch}
use Rattle.script_steps.specs.Executable.{AreExecutable}
use Rattle.script_steps.specs.Rulings.{Asked, asked_operations, allowed_operations}
use Rattle.script_lang.specs.OnBoards.{StepsAreOn}
use Rattle.script_plans.specs.declared.greeting.Greeting.{Greeting}
use Rattle.script_plans.specs.declared.greeting.Greeting.TheVariants.{Live}
use Rattle.script_plans.specs.declared.board_run.BoardRun.{BoardRun}
use Rattle.script_plans.specs.Plan.{count_on, operations, ops_on, planned_on, plans_on}
use Rattle.script_plans.proofs.PackedDispatches.{PacksWords}
use Rattle.transcript.specs.declared.line.OpLine.{OpLine}
use Rattle.transcript.specs.declared.line.OpResult.{OpResult}
use Rattle.transcript.specs.Claims.{IsDone}
use Rattle.transcript.specs.Results.{is_good, shown_result}
use Rattle.transcript.specs.Lines.{by_pieces, client_lines, line_of, lines_behind, shown_behind, showing}
use Rattle.transcript.proofs.Allowed.{allowed-append, asked_allowed}
use Rattle.board_history.specs.Runs.{board_run, greeting_of, opens_with, parts_in_turn}
use Rattle.board_history.proofs.Answering.{Answering, AnsweringAny, Garbling, Joins, Keeping, KeepingAll}
use Rattle.board_history.proofs.Readiness.{ArePackedFor, IsReady}
use Rattle.board_history.specs.Links.{CanBeMade, LinkReport}
use Rattle.board_history.specs.LinkRuns.{AreRunsOver, ShowAloneRunsWhereTold}
use Rattle.config_laws.specs.Turns.{AreOfOneWord, ShowTurns, ShowsTurn, bus_behind}
use Rattle.config_laws.proofs.BusReads.{Failures, Successes}
use Rattle.config_laws.proofs.LineReads.{BoardAt, board_at, done_is_good, live_if_good, lives_of}
use Rattle.config_laws.proofs.SavedLines.{RunAt, run_at}
use Rattle.config_laws.proofs.TurnBodies.{OneAnswer}
use Rattle.config_laws.proofs.TurnBoards.{AllShownGood, done_on_board, get_there, part_alone}
use Rattle.config_laws.proofs.TurnPlans.{laid_out, ops_append}

-- ---- what is shown of an operation

-- the operation is done on the bus of its board behind others, and shown so
pub record IsTurn (spec : BoardSpec) (before : List Asked) (op : RegOp) (r : OpResult) : Type 0 where
  pub done' : (outcome (bus_behind spec.link op.board before) op.op).fault ≡ None
  pub result : r ≡ shown_result op.verb op.mask (outcome (bus_behind spec.link op.board before) op.op).values

alone_showing : (spec : BoardSpec) (board : ℕ) (steps : List Step) (payload : ℕ) → greeting_of spec.link ≡ Live payload
    → (k : ℕ) (op : RegOp) → (showing (board_run spec board (steps ∷ [])) 0 k op).0
    ≡ (by_pieces (part_alone (opens_with spec.link) (planned_on board (Live payload) steps)) op
    (slice_get (planned_on board (Live payload) steps).pieces k)).0
alone_showing spec board steps payload live k op =
    ap (λ (g : Greeting). (showing (record {
      name = spec.name;
      greeting = g;
      parts = parts_in_turn 1 (opens_with spec.link) (plans_on board g (steps ∷ []));
    }) 0 k op).0) live

-- ---- operations on a board by their number

pub on_here : (board : ℕ) (it : RegOp) (ops : List RegOp) → (it.board == board) ≡ true
    → ops_on board (it ∷ ops) ≡ it.op ∷ ops_on board ops
on_here board it ops here = rw here refl

pub on_away : (board : ℕ) (it : RegOp) (ops : List RegOp) → (it.board == board) ≡ false
    → ops_on board (it ∷ ops) ≡ ops_on board ops
on_away board it ops away = rw away refl

count_is : (board : ℕ) (ops : List RegOp) → count_on board ops ≡ length (ops_on board ops)
count_is board [] = refl
count_is board (op ∷ ops) =
    let count : count_on board (op ∷ ops) ≡ cond (op.board == board) 1 0 + count_on board ops =
    sum_by-cons (λ (o : RegOp). cond (o.board == board) 1 0) op ops in
    let later = count_is board ops in
    elim (cases_Bool (op.board == board)) [
      | inl here ↦
          (let one : cond {A = ℕ} (op.board == board) 1 0 ≡ 1 = ap (λ t. cond {A = ℕ} t 1 0) here in
          let more : count_on board (op ∷ ops) ≡ suc (length (ops_on board ops)) = omega (arith, count, one, later) in
          more ∙ ap length (sym (on_here board op ops here)))
      | inr away ↦
          (let none : cond {A = ℕ} (op.board == board) 1 0 ≡ 0 = ap (λ t. cond {A = ℕ} t 1 0) away in
          let same : count_on board (op ∷ ops) ≡ length (ops_on board ops) = omega (arith, count, none, later) in
          same ∙ ap length (sym (on_away board op ops away)))
    ]

-- the operation of a number on a board, among those that are asked for
record IsFound (board k : ℕ) (asks : List Asked) (op : Op) : Type 0 where
  before : List Asked
  later : List Asked
  it : RegOp
  parts : before ++ record { op = it; denied = None } ∷ later ≡ asks
  on : it.board ≡ board
  is : it.op ≡ op
  number : length (ops_on board (allowed_operations before)) ≡ k

found_later : (board k n : ℕ) (ask : Asked) (asks : List Asked) (op : Op) → IsFound board k asks op
    → ((before : List Asked) → length (ops_on board (allowed_operations (ask ∷ before)))
    ≡ n + length (ops_on board (allowed_operations before))) → IsFound board (n + k) (ask ∷ asks) op
found_later board k n ask asks op found more = record {
  before = ask ∷ found.before;
  later = found.later;
  it = found.it;
  parts = ap (λ (xs : List Asked). ask ∷ xs) found.parts;
  on = found.on;
  is = found.is;
  number = more found.before ∙ ap (λ m. n + m) found.number;
}

abbrev pub undenied : RegOp → Asked
undenied it = record { op = it; denied = None }

abbrev denied_ask : ℕ → RegOp → Asked
denied_ask rule it = record { op = it; denied = Some rule }

-- the operations behind the first ask are found
abbrev FindsIn : ℕ → List Asked → Op → Type 0
FindsIn board asks op = (j : ℕ) → slice_get (ops_on board (allowed_operations asks)) j ≡ Some op → IsFound board j asks op

first_here : (board : ℕ) (it : RegOp) (asks : List Asked) (k : ℕ) (op : Op) → (it.board == board) ≡ true
    → slice_get (it.op ∷ ops_on board (allowed_operations asks)) k ≡ Some op → FindsIn board asks op
    → IsFound board k (undenied it ∷ asks) op
first_here board it asks zero op here at later = record {
  before = [];
  later = asks;
  it = it;
  parts = refl;
  on = eqb-true it.board board here;
  is = same_Some it.op op at;
  number = refl;
}
first_here board it asks (suc k) op here at later =
    let one : 1 + k ≡ suc k = omega arith in
    subst (λ n. IsFound board n (undenied it ∷ asks) op) one
    (found_later board k 1 (undenied it) asks op (later k at)
    (λ before.
    let plus : suc (length (ops_on board (allowed_operations before))) ≡ 1 + length (ops_on board (allowed_operations before)) = omega arith in
    ap length (on_here board it (allowed_operations before) here) ∙ plus))

first_away : (board : ℕ) (it : RegOp) (asks : List Asked) (k : ℕ) (op : Op) → (it.board == board) ≡ false
    → slice_get (ops_on board (allowed_operations asks)) k ≡ Some op → FindsIn board asks op
    → IsFound board k (undenied it ∷ asks) op
first_away board it asks k op away at later =
    let none : 0 + k ≡ k = omega arith in
    subst (λ n. IsFound board n (undenied it ∷ asks) op) none
    (found_later board k 0 (undenied it) asks op (later k at)
    (λ before.
    let plus : length (ops_on board (allowed_operations before)) ≡ 0 + length (ops_on board (allowed_operations before)) = omega arith in
    ap length (on_away board it (allowed_operations before) away) ∙ plus))

find_first : (board : ℕ) (it : RegOp) (denied : Option ℕ) (asks : List Asked) (k : ℕ) (op : Op)
    → slice_get (ops_on board (allowed_operations (record { op = it; denied = denied } ∷ asks))) k ≡ Some op
    → FindsIn board asks op → IsFound board k (record { op = it; denied = denied } ∷ asks) op
find_first board it None asks k op at later = elim (cases_Bool (it.board == board)) [
  | inl here ↦
      first_here board it asks k op here
      (subst (λ (os : List Op). slice_get os k ≡ Some op) (on_here board it (allowed_operations asks) here) at) later
  | inr away ↦
      first_away board it asks k op away
      (subst (λ (os : List Op). slice_get os k ≡ Some op) (on_away board it (allowed_operations asks) away) at) later
]
find_first board it (Some rule) asks k op at later =
    let none : 0 + k ≡ k = omega arith in
    subst (λ n. IsFound board n (denied_ask rule it ∷ asks) op) none
    (found_later board k 0 (denied_ask rule it) asks op (later k at)
    (λ before.
    let plus : length (ops_on board (allowed_operations before)) ≡ 0 + length (ops_on board (allowed_operations before)) = omega arith in plus))

find_op : (board : ℕ) (asks : List Asked) (k : ℕ) (op : Op) → slice_get (ops_on board (allowed_operations asks)) k ≡ Some op
    → IsFound board k asks op
find_op board [] k op at = absurd cc
find_op board (ask ∷ asks) k op at =
    find_first board ask.op ask.denied asks k op at (λ j there. find_op board asks j op there)

-- ---- a line by its place

line_there : (P : OpLine → Type 0) (runs : List BoardRun) (client : ℕ) (before front later : List Asked) (ask : Asked)
    (run : BoardRun) → slice_get runs ask.op.board ≡ Some run
    → AllByRecursion P (lines_behind runs client before (front ++ ask ∷ later))
    → P (line_of client (before ++ front) ask run)
line_there P runs client before [] later ask run at all =
    let here : AllByRecursion P (option_to_list (option_map (line_of client before ask) (Some run))
    ++ lines_behind runs client (before ++ ask ∷ []) later) =
    subst (λ (o : Option BoardRun). AllByRecursion P (option_to_list (option_map (line_of client before ask) o)
    ++ lines_behind runs client (before ++ ask ∷ []) later)) at all in
    subst (λ (asks : List Asked). P (line_of client asks ask run)) (sym (append-nil before)) here.0
line_there P runs client before (x ∷ front) later ask run at all =
    let rest = back_of_all P (option_to_list (option_map (line_of client before x) (slice_get runs x.op.board)))
    (lines_behind runs client (before ++ x ∷ []) (front ++ ask ∷ later)) all in
    subst (λ (asks : List Asked). P (line_of client asks ask run)) (append_assoc before (x ∷ []) front)
    (line_there P runs client (before ++ x ∷ []) front later ask run at rest)

-- ---- a board that the client uses alone

module _ (success : Successes) (failure : Failures) (only : OneAnswer) (answering : Answering) (any : AnsweringAny)
    (keeping : Keeping) (keeping_all : KeepingAll) (garbling : Garbling) (joins : Joins) where
  module _ (specs : List BoardSpec) (steps : List Step) (one : AreOfOneWord steps) (runs : List BoardRun)
      (done : AllByRecursion IsDone (client_lines runs 0 steps)) where
    -- what is shown of an operation that is asked for
    shown_good : (run : BoardRun) (before later : List Asked) (ask : Asked) → slice_get runs ask.op.board ≡ Some run
        → before ++ ask ∷ later ≡ asked_operations steps → is_good (shown_behind run 0 before ask.op ask.denied).0 ≡ true
    shown_good run before later ask at parts =
        done_is_good (shown_behind run 0 before ask.op ask.denied).0
        (line_there IsDone runs 0 [] before later ask run at
        (subst (λ (asks : List Asked). AllByRecursion IsDone (lines_behind runs 0 [] asks)) (sym parts) done))

    -- and of each operation on its board
    all_shown : (board payload : ℕ) (cells : CellMap) (run : BoardRun) → slice_get runs board ≡ Some run
        → let planned = planned_on board (Live payload) steps in
        ((k : ℕ) (op : RegOp) → (showing run 0 k op).0
        ≡ (by_pieces (part_alone cells planned) op (slice_get planned.pieces k)).0)
        → AllShownGood cells planned (ops_on board (operations steps))
    all_shown board payload cells run at same k op there =
        let planned = planned_on board (Live payload) steps in
        let found = find_op board (asked_operations steps) k op
        (subst (λ (ops : List RegOp). slice_get (ops_on board ops) k ≡ Some op) (sym (asked_allowed steps)) there) in
        let good = shown_good run found.before found.later (undenied found.it)
        (subst (λ n. slice_get runs n ≡ Some run) (sym found.on) at) found.parts in
        let number : count_on found.it.board (allowed_operations found.before) ≡ k =
        ap (λ n. count_on n (allowed_operations found.before)) found.on ∙ count_is board (allowed_operations found.before) ∙ found.number in (
          found.it,
          subst (λ n. is_good (by_pieces (part_alone cells planned) found.it (slice_get planned.pieces n)).0 ≡ true)
              number
              (subst (λ (r : OpResult). is_good r ≡ true) (same (count_on found.it.board (allowed_operations found.before)) found.it)
              good),
        )

    live_turn : (spec : BoardSpec) (run : BoardRun) (before later : List Asked) (op : RegOp)
        → slice_get runs op.board ≡ Some run → IsReady spec op.board (steps ∷ [])
        → run ≡ board_run spec op.board (steps ∷ []) → before ++ undenied op ∷ later ≡ asked_operations steps
        → IsTurn spec before op (showing run 0 (count_on op.board (allowed_operations before)) op).0
    live_turn spec run before later op at ready alone parts =
        let board = op.board in
        let cells = opens_with spec.link in
        let lives = lives_of spec.link ready.here in
        let planned = planned_on board (Live lives.payload) steps in
        let packings = subst (λ (g : Greeting). ArePackedFor board g steps) lives.is ready.packed'.0 in
        let laid = laid_out lives.payload board steps lives.low one packings in
        let same : (k : ℕ) (o : RegOp) → (showing run 0 k o).0
        ≡ (by_pieces (part_alone cells planned) o (slice_get planned.pieces k)).0 =
        λ k o. ap (λ (r : BoardRun). (showing r 0 k o).0) alone ∙ alone_showing spec board steps lives.payload lives.is k o
        in
        let ops : ops_on board (allowed_operations before) ++ op.op ∷ ops_on board (allowed_operations later) ≡ ops_on board (operations steps) =
        ap (λ (os : List Op). ops_on board (allowed_operations before) ++ os)
        (sym (on_here board op (allowed_operations later) (eq-eqb board board refl)))
        ∙ sym (ops_append board (allowed_operations before) (op ∷ allowed_operations later))
        ∙ ap (ops_on board) (sym (allowed-append before (undenied op ∷ later)) ∙ ap allowed_operations parts ∙ asked_allowed steps) in
        let is = done_on_board success failure only answering any keeping keeping_all garbling joins cells planned
        (ops_on board (operations steps)) laid ready.words
        (all_shown board lives.payload cells run at same) (ops_on board (allowed_operations before)) (ops_on board (allowed_operations later)) op
        ops in
        record {
          done' = is.done;
          result = same (count_on board (allowed_operations before)) op
              ∙ ap (λ n. (by_pieces (part_alone cells planned) op (slice_get planned.pieces n)).0)
              (count_is board (allowed_operations before))
              ∙ is.shown';
        }

    -- the line of an operation that is asked for
    ask_turn : (run : BoardRun) (before later : List Asked) (op : RegOp) (denied : Option ℕ)
        → slice_get runs op.board ≡ Some run → (is : BoardAt specs steps op.board op.board run)
        → before ++ record { op = op; denied = denied } ∷ later ≡ asked_operations steps → run.name ≡ is.spec.name
        → ShowsTurn specs before (record { op = op; denied = denied })
        (line_of 0 before (record { op = op; denied = denied }) run)
    ask_turn run before later op None at is parts named =
        let good = shown_good run before later (undenied op) at parts in
        let live = live_if_good run 0 (count_on op.board (allowed_operations before)) op run.greeting refl good in
        let turn = live_turn is.spec run before later op at is.ready (is.alone live.0 live.1) parts in
        record {
          allowed' = refl;
          spec = is.spec;
          on = is.on;
          number' = refl;
          verb' = refl;
          board' = named;
          name' = refl;
          done = turn.done';
          result' = turn.result;
        }
    ask_turn run before later op (Some rule) at is parts named =
        absurd (not_good (shown_good run before later (denied_ask rule op) at parts)) where
          not_good : is_good (shown_behind run 0 before op (Some rule)).0 ≡ true → ⊥
          not_good good = cc

    -- ---- all lines

    turns_from : ((k : ℕ) (run : BoardRun) → slice_get runs k ≡ Some run → BoardAt specs steps k k run)
        → ((k : ℕ) (spec : BoardSpec) → slice_get specs k ≡ Some spec → RunAt runs k spec)
        → (before asks : List Asked) → before ++ asks ≡ asked_operations steps
        → AllByRecursion (λ (ask : Asked). ask.op.board < length specs) asks
        → ShowTurns specs before asks (lines_behind runs 0 before asks)
    turns_from boards over before [] parts on = tt
    turns_from boards over before (ask ∷ asks) parts on =
        let found = get_there specs ask.op.board on.0 in
        let there = over ask.op.board found.0 found.1 in
        let is = boards ask.op.board there.run there.there in
        let same : found.0 ≡ is.spec = same_Some found.0 is.spec (sym found.1 ∙ is.on) in
        let named : there.run.name ≡ is.spec.name = there.named ∙ ap (λ (s : BoardSpec). s.name) same in
        let later = turns_from boards over (before ++ ask ∷ []) asks (append_assoc before (ask ∷ []) asks ∙ parts) on.1 in
        subst (λ (o : Option BoardRun). ShowTurns specs before (ask ∷ asks)
        (option_to_list (option_map (line_of 0 before ask) o) ++ lines_behind runs 0 (before ++ ask ∷ []) asks))
        (sym there.there)
        (ask_turn there.run before asks ask.op ask.denied there.there is parts named, later)

  asks_on : (most : ℕ) (steps : List Step) → StepsAreOn most steps
      → AllByRecursion (λ (ask : Asked). ask.op.board < most) (asked_operations steps)
  asks_on most [] on = tt
  asks_on most (Do op ∷ steps) on = (on.0, asks_on most steps on.1)
  asks_on most (Denied rule op ∷ steps) on = (on.0, asks_on most steps on.1)
  asks_on most (Dispatch ∷ steps) on = asks_on most steps on.1

  pub turns_shown : PacksWords → (settings : Limits) (specs : List BoardSpec) (steps : List Step) (runs : List BoardRun)
      (links : List LinkReport) → AreRunsOver settings 0 specs (steps ∷ []) runs links
      → ShowAloneRunsWhereTold 0 specs (steps ∷ []) runs links
      → AllByRecursion (λ (link : LinkReport). is_some link.telling ≡ true) links
      → AllByRecursion (λ (spec : BoardSpec). CanBeMade spec.link) specs → AllByRecursion OpensOnWords specs
      → AreExecutable steps → StepsAreOn (length specs) steps → AreOfOneWord steps
      → AllByRecursion IsDone (client_lines runs 0 steps)
      → ShowTurns specs [] (asked_operations steps) (client_lines runs 0 steps)
  turns_shown packs settings specs steps runs links is alone tell made words can on one done =
      let boards : (k : ℕ) (run : BoardRun) → slice_get runs k ≡ Some run → BoardAt specs steps k k run =
      λ k run at.
      let first : 0 + k ≡ k = omega arith in
      subst (λ n. BoardAt specs steps n k run) first
      (board_at packs settings 0 specs steps runs links is alone tell made words (can, tt) k run at) in
      turns_from specs steps one runs done boards (run_at settings 0 specs (steps ∷ []) runs links is) [] (asked_operations steps)
      refl (asks_on (length specs) steps on)
