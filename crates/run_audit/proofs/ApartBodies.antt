-- Bodies as keys, and the bodies of operations by the runs of boards.
use Rattle.std.proofs.Common.{◌≡◌, ◌≢◌, ◌⊎◌, ℕ, ◌+◌, ◌==◌, Bool, true, false, List, [], ◌∷◌, map, Option, Some, None, cond, Vec}
use Rattle.std.proofs.Common.{refl, sym, ap, ◌∙◌, inl, inr}
use Rattle.std.specs.Prelude.{◌&&◌}
use Rattle.std.specs.Ordering.{is_eq, nat_cmp, ordering_then}
use Rattle.std.specs.BTreeMap as tree
use Rattle.std.specs.BTreeMap.{is_at}
use Rattle.std.specs.Option.{option_map_or, unwrap_or}
use Rattle.std.specs.declared.alloc.Global.{Global}
use Rattle.std.specs.declared.cmp.Ordering.{Ordering}
use Rattle.std.specs.declared.cmp.Ordering.TheVariants.{Less, Equal, Greater}
use Rattle.std.proofs.lemmas.Bool.{cases_eq, eqb-true, false≢true}
use Rattle.std.proofs.lemmas.Map.Lookups.{exact_unsigned}
use Rattle.std.proofs.lemmas.Option.{same_Some}
use Rattle.board_bus.specs.Cells.{CellMap}
use Rattle.board_history.specs.Order.{Placed}
use Rattle.board_history.specs.Runs.{greeting_of, opens_with}
use Rattle.board_specs.specs.declared.spec.BoardSpec.{BoardSpec}
use Rattle.script_plans.specs.Plan.{ClientBodies, plans_on}
use Rattle.script_plans.specs.declared.planned.PieceAt.{PieceAt}
use Rattle.script_plans.specs.declared.board_run.BoardRun.{BoardRun}
use Rattle.script_plans.specs.declared.board_run.ClientPart.{ClientPart}
use Rattle.script_steps.specs.declared.operation.Step.{Step}
use Rattle.run_audit.specs.Apart.{Body, Fates, fate_in, fate_of, only_body, plans_in, row_cmp}
use Rattle.run_audit.specs.declared.fate.Fate.{Fate}
use Rattle.run_audit.specs.AskedLines.{AskedLine, ShownPiece, pieces_of, pieces_shown}
use Rattle.run_audit.specs.Replay.{parts_from, shown_order}
use Rattle.run_audit.specs.Steps.{planned_pieces, plans_from, replays_from}
use Rattle.run_audit.proofs.PlansMade.{planned_pieces_are}

-- ---- keys

is_equal : (order : Ordering) → is_eq order ≡ true → order ≡ Equal
is_equal Less holds = absurd (false≢true holds)
is_equal Equal holds = refl
is_equal Greater holds = absurd (false≢true holds)

both_equal : (first next : Ordering) → ordering_then first next ≡ Equal → (first ≡ Equal) × (next ≡ Equal)
both_equal Less next same = cc
both_equal Equal next same = (refl, same)
both_equal Greater next same = cc

exact : (one other : ℕ × ℕ) → row_cmp one other ≡ Equal → one ≡ other
exact (board, client) (board', client') same =
    let both = both_equal (nat_cmp board board') (nat_cmp client client') same in
    let boards : board ≡ board' = exact_unsigned board board' both.0 in
    let clients : client ≡ client' = exact_unsigned client client' both.1 in
    cc

abbrev RowVec : Type 0
RowVec = Vec (Option Fate) Global

-- a row that was there, or else one of nothing
pub row_items : (found : Option RowVec) (row empty : RowVec) → row ≡ unwrap_or found empty → empty.items ≡ []
    → row.items ≡ option_map_or (λ (r : RowVec). r.items) found []
row_items None row empty is none = ap (λ (r : RowVec). r.items) is ∙ none
row_items (Some there) row empty is none = ap (λ (r : RowVec). r.items) is

in_row : (found : Option RowVec) (row : List (Option Fate)) (body : ℕ)
    → row ≡ option_map_or (λ (r : RowVec). r.items) found []
    → fate_in row body ≡ option_map_or (λ (r : RowVec). fate_in r.items body) found None
in_row None row body is = ap (λ xs. fate_in xs body) is
in_row (Some there) row body is = ap (λ xs. fate_in xs body) is

-- where one row is exchanged, and in it one body, the others stay
module _ (old mid new : Fates) (board client body : ℕ) (row now : RowVec)
    (was : row.items ≡ option_map_or (λ (r : RowVec). r.items) (tree.get row_cmp old (board, client)) [])
    (took : (q : ℕ × ℕ) → tree.get row_cmp mid q
    ≡ cond (is_at (row_cmp (board, client)) q) None (tree.get row_cmp old q))
    (put : (q : ℕ × ℕ) → tree.get row_cmp new q
    ≡ cond (is_at (row_cmp (board, client)) q) (Some now) (tree.get row_cmp mid q))
    (kept : (n : ℕ) → n ≢ body → fate_in now.items n ≡ fate_in row.items n) where
  abbrev told_in : ℕ → Option RowVec → Option Fate
  told_in n found = option_map_or (λ (r : RowVec). fate_in r.items n) found None

  by_row : (other : Body) → other ≢ (board, client, body) → (here : Bool)
      → is_at (row_cmp (board, client)) (other.0, other.1) ≡ here → fate_of new other ≡ fate_of old other
  by_row (b, c, n) apart true here =
      let same : (board, client) ≡ (b, c) = exact (board, client) (b, c) (is_equal (row_cmp (board, client) (b, c)) here) in
      let boards : b ≡ board = sym (ap (λ (key : ℕ × ℕ). key.0) same) in
      let clients : c ≡ client = sym (ap (λ (key : ℕ × ℕ). key.1) same) in
      let other_body : n ≢ body = λ (is : n ≡ body). apart (rw (boards, clients, is) refl) in
      ap (told_in n) (put (b, c) ∙ ap (λ at. cond at (Some now) (tree.get row_cmp mid (b, c))) here)
      ∙ (kept n other_body
      ∙ (in_row (tree.get row_cmp old (board, client)) row.items n was
      ∙ ap (λ (key : ℕ × ℕ). told_in n (tree.get row_cmp old key)) same))
  by_row (b, c, n) apart false here =
      ap (told_in n)
      (put (b, c) ∙ (ap (λ at. cond at (Some now) (tree.get row_cmp mid (b, c))) here
      ∙ (took (b, c) ∙ ap (λ at. cond at None (tree.get row_cmp old (b, c))) here)))

  pub others_kept : (other : Body) → other ≢ (board, client, body) → fate_of new other ≡ fate_of old other
  others_kept other apart = by_row other apart (is_at (row_cmp (board, client)) (other.0, other.1)) refl

both_true : (a b : Bool) → (a && b) ≡ true → (a ≡ true) × (b ≡ true)
both_true true b both = (refl, both)
both_true false b both = absurd (false≢true both)

-- bodies are one where their parts are
pub same_key : (one other : Body) → (((one.0 == other.0) && (one.1 == other.1)) && (one.2 == other.2)) ≡ true
    → one ≡ other
same_key (board, client, body) (board', client', body') all =
    let outer = both_true ((board == board') && (client == client')) (body == body') all in
    let inner = both_true (board == board') (client == client') outer.0 in
    let boards : board ≡ board' = eqb-true board board' inner.0 in
    let clients : client ≡ client' = eqb-true client client' inner.1 in
    let bodies : body ≡ body' = eqb-true body body' outer.1 in
    cc

pub cases_body : (one other : Body) → (one ≡ other) ⊎ (one ≢ other)
cases_body (board, client, body) (board', client', body') =
    elim (cases_eq board board') [
      | inl boards ↦ elim (cases_eq client client') [
        | inl clients ↦ elim (cases_eq body body') [
          | inl bodies ↦ inl cc
          | inr apart ↦ inr (λ same. apart (ap (λ (key : Body). key.2) same))
        ]
        | inr apart ↦ inr (λ same. apart (ap (λ (key : Body). key.1) same))
      ]
      | inr apart ↦ inr (λ same. apart (ap (λ (key : Body). key.0) same))
    ]

-- ---- the one piece of an operation

-- the operation has one piece, which stands in this body
pub record StandsIn (asking : AskedLine) (pieces : List PieceAt) (body : Body) : Type 0 where
  pub board : asking.ask.op.board ≡ body.0
  pub client : asking.client ≡ body.1
  pub within : (index : ℕ) × (pieces ≡ record { body = body.2; index = index } ∷ [])

pub stands_in : (asking : AskedLine) (pieces : List PieceAt) (body : Body) → only_body asking pieces ≡ Some body
    → StandsIn asking pieces body
stands_in asking [] body at = cc
stands_in asking (piece ∷ []) body at =
    let one : (asking.ask.op.board, asking.client, piece.body) ≡ body =
    same_Some (asking.ask.op.board, asking.client, piece.body) body at in
    record {
      board = ap (λ (key : Body). key.0) one;
      client = ap (λ (key : Body). key.1) one;
      within = (piece.index, ap (λ (key : Body). record { body = key.2; index = piece.index } ∷ []) one);
    }
stands_in asking (piece ∷ (other ∷ pieces)) body at = cc

pub only_within : (asking : AskedLine) (pieces : List PieceAt) (body index : ℕ)
    → pieces ≡ record { body = body; index = index } ∷ []
    → only_body asking pieces ≡ Some (asking.ask.op.board, asking.client, body)
only_within asking pieces body index one = ap (only_body asking) one

-- ---- the runs of a session

parts_planned : (opening : CellMap) (order : List Placed) (pieces : List ShownPiece) (client : ℕ)
    (plans : List ClientBodies)
    → map (λ (part : ClientPart). part.planned) (parts_from opening order pieces client plans) ≡ plans
parts_planned opening order pieces client [] = refl
parts_planned opening order pieces client (plan ∷ plans) =
    ap (λ (rest : List ClientBodies). plan ∷ rest) (parts_planned opening order pieces (client + 1) plans)

runs_planned : (boards : List BoardSpec) (scripts : List (List Step)) (lines : List AskedLine) (board : ℕ)
    (specs : List BoardSpec) → plans_in (replays_from boards scripts lines board specs) ≡ plans_from board specs scripts
runs_planned boards scripts lines board [] = refl
runs_planned boards scripts lines board (spec ∷ specs) =
    let pieces = pieces_shown boards scripts board lines in
    let plans = plans_on board (greeting_of spec.link) scripts in
    let here : map (λ (part : ClientPart). part.planned)
    (parts_from (opens_with spec.link) (shown_order pieces plans) pieces 0 plans) ≡ plans =
    parts_planned (opens_with spec.link) (shown_order pieces plans) pieces 0 plans in
    let rest : plans_in (replays_from boards scripts lines (board + 1) specs) ≡ plans_from (board + 1) specs scripts =
    runs_planned boards scripts lines (board + 1) specs in
    cc

-- The pieces by the runs of a session are those of the session.
pub run_pieces : (boards : List BoardSpec) (scripts : List (List Step)) (lines : List AskedLine) (runs : List BoardRun)
    → runs ≡ replays_from boards scripts lines 0 boards → (asking : AskedLine)
    → planned_pieces (plans_in runs) asking ≡ pieces_of boards scripts asking
run_pieces boards scripts lines runs are asking =
    ap (λ (rs : List BoardRun). planned_pieces (plans_in rs) asking) are
    ∙ (ap (λ (plans : List (List ClientBodies)). planned_pieces plans asking) (runs_planned boards scripts lines 0 boards)
    ∙ planned_pieces_are boards scripts asking)
