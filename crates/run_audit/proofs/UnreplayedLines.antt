-- What the code compares a line with is what the replay came to.
use Rattle.std.proofs.Common.{◌≡◌, ◌↔◌, ◌⊎◌, ◌+◌, ℕ, zero, suc, refl, List, [], ◌∷◌, Option, Some, None, map, inl, inr}
use Rattle.std.proofs.Common.{add-zero, ap, arith, subst, sym, ◌∙◌}
use Rattle.std.specs.Prelude.{option_and_then, unwrap_or}
use Rattle.std.specs.List.{AllByRecursion, slice_get}
use Rattle.std.specs.Option.{option_map, option_map_or}
use Rattle.std.proofs.lemmas.Option.{same_Some, slice_get-map}
use Rattle.board_bus.specs.Cells.{CellMap}
use Rattle.board_history.specs.Order.{Placed}
use Rattle.board_history.specs.Runs.{greeting_of, opens_with}
use Rattle.board_specs.specs.declared.spec.BoardSpec.{BoardSpec}
use Rattle.script_plans.specs.declared.board_run.BoardRun.{BoardRun}
use Rattle.script_plans.specs.declared.board_run.ClientPart.{ClientPart}
use Rattle.script_plans.specs.declared.greeting.Greeting.{Greeting}
use Rattle.script_plans.specs.declared.greeting.Greeting.TheVariants.{Live, Silent, Down}
use Rattle.script_plans.specs.declared.planned.PieceAt.{PieceAt}
use Rattle.script_plans.specs.Plan.{ClientBodies}
use Rattle.script_steps.specs.declared.operation.RegOp.{RegOp}
use Rattle.script_steps.specs.declared.operation.Step.{Step}
use Rattle.transcript.specs.declared.body_end.BodyEnd.{BodyEnd}
use Rattle.transcript.specs.declared.line.OpResult.{OpResult}
use Rattle.transcript.specs.declared.line.OpResult.TheVariants.{Value, Done, Was, Error, Skipped, TimedOut, Late}
use Rattle.transcript.specs.declared.line.OpResult.TheVariants.{Unsent, LinkLost, Garbled, Denied}
use Rattle.transcript.specs.Ends.{ends_of, ends_with}
use Rattle.transcript.specs.Lines.{by_pieces, in_part}
use Rattle.transcript.specs.Steps.{ends_on}
use Rattle.run_audit.specs.Agreeing.{AgreesWith, IsAnswer}
use Rattle.run_audit.specs.AskedLines.{AskedLine, ShownPiece}
use Rattle.run_audit.specs.Replay.{parts_from, replay_of_board}
use Rattle.run_audit.specs.Results.{Agrees, result_in}
use Rattle.run_audit.specs.Apart.{plans_in}
use Rattle.run_audit.specs.Steps.{planned_pieces, replays_from}
use Rattle.run_audit.specs.Unreplayed.{AgreesBy, board_ends, comes_to, ends_at, ends_in_time, sent_in, sent_on}

-- ---- what an operation came to

pieces_come : (part : ClientPart) (op : RegOp) (found : Option (List PieceAt))
    → comes_to (ends_of part) op found ≡ (by_pieces part op found).0
pieces_come part op None = refl
pieces_come part op (Some pieces) = refl

part_comes : (op : RegOp) (number : ℕ) (found : Option ClientPart)
    → comes_to (option_map_or ends_of found []) op
    (option_and_then (λ (part : ClientPart). slice_get part.planned.pieces number) found)
    ≡ (in_part found number op).0
part_comes op number None = refl
part_comes op number (Some part) = pieces_come part op (slice_get part.planned.pieces number)

not_told : (told other : OpResult) → IsAnswer told → (IsAnswer other → ⊥) → told ≡ other → ⊥
not_told told other answer none same = none (subst IsAnswer same answer)

-- a result of one of these kinds
pub is_answer : (told : OpResult)
    → ((words : List ℕ) × (told ≡ Value words)) ⊎ ((told ≡ Done) ⊎ (((word : ℕ) × (told ≡ Was word))
    ⊎ (((code after : ℕ) × (told ≡ Error code after)) ⊎ (told ≡ Skipped)))) → IsAnswer told
is_answer told (inl (words, is)) = subst IsAnswer (sym is) tt
is_answer told (inr (inl is)) = subst IsAnswer (sym is) tt
is_answer told (inr (inr (inl (word, is)))) = subst IsAnswer (sym is) tt
is_answer told (inr (inr (inr (inl (code, after, is))))) = subst IsAnswer (sym is) tt
is_answer told (inr (inr (inr (inr is)))) = subst IsAnswer (sym is) tt

abbrev pub Run : List ℕ → Greeting → List ClientPart → BoardRun
Run name told parts = record { name = name; greeting = told; parts = parts }

-- a reply tells what the code compares where it tells what the board came to
pub comes_is : (name : List ℕ) (greeting : Greeting) (parts : List ClientPart) (asking : AskedLine) (told : OpResult)
    → IsAnswer told
    → told ≡ comes_to (ends_on asking.client (Run name greeting parts)) asking.ask.op
    (sent_on (Run name greeting parts) asking.client asking.number)
    ↔ result_in (Run name greeting parts) asking ≡ told
comes_is name (Live payload) parts asking told answer =
    let same = part_comes asking.ask.op asking.number (slice_get parts asking.client) in
    (λ is. sym (is ∙ same), λ is. sym (same ∙ is))
comes_is name Silent parts asking told answer = (
  λ is. absurd (not_told told Unsent answer (λ none. none) is),
  λ is. absurd (not_told told Unsent answer (λ none. none) (sym is)),
)
comes_is name Down parts asking told answer = (
  λ is. absurd (not_told told Unsent answer (λ none. none) is),
  λ is. absurd (not_told told LinkLost answer (λ none. none) (sym is)),
)

-- ---- the cases of a result

module _ (rounds : ℕ) (pieces : List PieceAt) (run : BoardRun) (asking : AskedLine) (came_to : OpResult)
    (comes : (told : OpResult) → IsAnswer told → told ≡ came_to ↔ result_in run asking ≡ told) where
  abbrev WithIt : OpResult → Type 0
  WithIt told = AgreesWith rounds (ends_on asking.client run) asking.ask.op pieces came_to told

  -- what the code asks of a result is what is asked of it
  with_is : (told : OpResult) → WithIt told ↔ Agrees rounds pieces run asking told
  with_is (Value words) = comes (Value words) tt
  with_is Done = comes Done tt
  with_is (Was word) = comes (Was word) tt
  with_is (Error code after) = comes (Error code after) tt
  with_is Skipped = comes Skipped tt
  with_is (TimedOut other) = (λ a. a, λ a. a)
  with_is (Late other answer) = (λ a. a, λ a. a)
  with_is Unsent = (λ a. a, λ a. a)
  with_is LinkLost = (λ a. a, λ a. a)
  with_is Garbled = (λ a. a, λ a. a)
  with_is (Denied rule) = (λ a. a, λ a. a)

  pub agrees_is : (ends : List BodyEnd) (found : List PieceAt) (told : OpResult)
      → ends ≡ ends_on asking.client run → found ≡ pieces
      → AgreesWith rounds ends asking.ask.op found came_to told ↔ Agrees rounds pieces run asking told
  agrees_is ends found told ended at = rw (ended, at) (with_is told)

-- of a result that a reply tells the code asks whether it is the one of the replay
agrees_answer : (rounds : ℕ) (ends : List BodyEnd) (op : RegOp) (pieces : List PieceAt) (came_to told : OpResult)
    → IsAnswer told → told ≡ came_to ↔ AgreesWith rounds ends op pieces came_to told
agrees_answer rounds ends op pieces came_to (Value words) is = (λ e. e, λ e. e)
agrees_answer rounds ends op pieces came_to Done is = (λ e. e, λ e. e)
agrees_answer rounds ends op pieces came_to (Was word) is = (λ e. e, λ e. e)
agrees_answer rounds ends op pieces came_to (Error code after) is = (λ e. e, λ e. e)
agrees_answer rounds ends op pieces came_to Skipped is = (λ e. e, λ e. e)
agrees_answer rounds ends op pieces came_to (TimedOut told) is = absurd is
agrees_answer rounds ends op pieces came_to (Late told answer) is = absurd is
agrees_answer rounds ends op pieces came_to Unsent is = absurd is
agrees_answer rounds ends op pieces came_to LinkLost is = absurd is
agrees_answer rounds ends op pieces came_to Garbled is = absurd is
agrees_answer rounds ends op pieces came_to (Denied rule) is = absurd is

pub answer_by : (rounds : ℕ) (runs : List BoardRun) (asking : AskedLine) (all : List (List (List BodyEnd)))
    (ends : List BodyEnd) → all ≡ map board_ends runs → ends ≡ ends_at all asking.ask.op.board asking.client
    → IsAnswer asking.shows.0
    → asking.shows.0 ≡ comes_to ends asking.ask.op (sent_in runs asking) ↔ AgreesBy rounds runs asking
answer_by rounds runs asking all ends made at is =
    let own = ends_at (map board_ends runs) asking.ask.op.board asking.client in
    rw (at, made) (agrees_answer rounds own asking.ask.op (planned_pieces (plans_in runs) asking)
    (comes_to own asking.ask.op (sent_in runs asking)) asking.shows.0 is)

-- ---- the parts of a run

abbrev IsInTime : ClientPart → Type 0
IsInTime part = part.lates ≡ []

module _ (opening : CellMap) (order : List Placed) (pieces : List ShownPiece) where
  in_time : (client : ℕ) (plans : List ClientBodies)
      → AllByRecursion IsInTime (parts_from opening order pieces client plans)
  in_time client [] = tt
  in_time client (plan ∷ plans) = (refl, in_time (client + 1) plans)

ends_are : (parts : List ClientPart) (client : ℕ) → AllByRecursion IsInTime parts
    → unwrap_or (slice_get (map ends_in_time parts) client) [] ≡ option_map_or ends_of (slice_get parts client) []
ends_are [] client all = refl
ends_are (part ∷ parts) zero all = ap (ends_with part.planned.bodies part.outcomes) (sym all.0)
ends_are (part ∷ parts) (suc client) all = ends_are parts client all.1

-- ---- the run of a board

module _ (boards : List BoardSpec) (scripts : List (List Step)) (lines : List AskedLine) where
  runs_at : (first : ℕ) (specs : List BoardSpec) (board : ℕ) (spec : BoardSpec) → slice_get specs board ≡ Some spec
      → slice_get (replays_from boards scripts lines first specs) board
      ≡ Some (replay_of_board boards scripts lines spec (first + board))
  runs_at first [] board spec there = cc
  runs_at first (other ∷ specs) zero spec there =
      let same : other ≡ spec = same_Some other spec there in
      ap (λ b. Some (replay_of_board boards scripts lines other b)) (sym (add-zero first))
      ∙ ap (λ s. Some (replay_of_board boards scripts lines s (first + 0))) same
  runs_at first (other ∷ specs) (suc board) spec there =
      let e : first + 1 + board ≡ first + suc board = omega arith in
      runs_at (first + 1) specs board spec there ∙ ap (λ b. Some (replay_of_board boards scripts lines spec b)) e

  module _ (asking : AskedLine) (spec : BoardSpec) (there : slice_get boards asking.ask.op.board ≡ Some spec) where
    abbrev Runs : List BoardRun
    Runs = replays_from boards scripts lines 0 boards

    abbrev Here : BoardRun
    Here = replay_of_board boards scripts lines spec asking.ask.op.board

    run_at : slice_get Runs asking.ask.op.board ≡ Some Here
    run_at =
        let e : 0 + asking.ask.op.board ≡ asking.ask.op.board = omega arith in
        runs_at 0 boards asking.ask.op.board spec there ∙ ap (λ b. Some (replay_of_board boards scripts lines spec b)) e

    pub ended : ends_at (map board_ends Runs) asking.ask.op.board asking.client ≡ ends_on asking.client Here
    ended =
        let board = asking.ask.op.board in
        ap (λ o. unwrap_or (slice_get (unwrap_or o []) asking.client) [])
        (slice_get-map board_ends Runs board ∙ ap (option_map board_ends) run_at)
        ∙ ends_are Here.parts asking.client (in_time (opens_with spec.link) _ _ 0 _)

    sent : sent_in Runs asking ≡ sent_on Here asking.client asking.number
    sent = ap (option_and_then (λ (run : BoardRun). sent_on run asking.client asking.number)) run_at

    -- what the code compares a result with that a reply tells is what the replay came to
    pub came : (told : OpResult) → IsAnswer told
        → told ≡ comes_to (ends_at (map board_ends Runs) asking.ask.op.board asking.client) asking.ask.op
        (sent_in Runs asking)
        ↔ result_in Here asking ≡ told
    came told answer =
        rw (ended, sent) (comes_is spec.name (greeting_of spec.link) Here.parts asking told answer)
