-- How the steps of an audit work together: what private functions promise one another. No public clause speaks of these.
use Rattle.std.specs.Prelude.{◌≡◌, ◌⊎◌, ℕ, ◌+◌, ◌<◌, ◌≤◌, ◌==◌, nat_le, if◌then◌else◌, List, [], ◌∷◌, slice_get}
use Rattle.std.specs.Prelude.{◌&&◌, ◌||◌, Bool, false, not, Option, Some, None, MatchOption, unwrap_or}
use Rattle.std.specs.List.{flat_map}
use Rattle.board_specs.specs.declared.spec.BoardSpec.{BoardSpec}
use Rattle.script_steps.specs.declared.operation.Step.{Step}
use Rattle.script_plans.specs.Plan.{ClientBodies, no_bodies, plans_on}
use Rattle.script_plans.specs.declared.planned.PieceAt.{PieceAt}
use Rattle.script_plans.specs.declared.board_run.BoardRun.{BoardRun}
use Rattle.board_history.specs.Runs.{greeting_of}
use Rattle.transcript_reader.specs.declared.shown.Shown.{Shown}
use Rattle.run_audit.specs.declared.asking.AskedOp.{AskedOp}
use Rattle.run_audit.specs.declared.places.PieceShown.{PieceShown}
use Rattle.run_audit.specs.AskedLines.{AskedLine, ShownPiece, asked_lines, pieces_unless, with_places}
use Rattle.run_audit.specs.Replay.{replay_of_board}

-- what the code keeps of an operation and its line
abbrev pub asking : AskedOp → AskedLine
asking op = record {
  line = op.line;
  client = op.client;
  number = op.number;
  ask = record { op = op.op.now; denied = op.denied };
  shows = op.shown.now;
}

-- what the clients ask of the boards, the first of which has this position
abbrev pub plans_from : ℕ → List BoardSpec → List (List Step) → List (List ClientBodies)
plans_from board [] scripts = []
plans_from board (spec ∷ specs) scripts =
    plans_on board (greeting_of spec.link) scripts ∷ plans_from (board + 1) specs scripts

-- the runs of the boards as they are shown, the first of which has this position
abbrev pub replays_from : List BoardSpec → List (List Step) → List AskedLine → ℕ → List BoardSpec → List BoardRun
replays_from boards scripts lines board [] = []
replays_from boards scripts lines board (spec ∷ specs) =
    replay_of_board boards scripts lines spec board ∷ replays_from boards scripts lines (board + 1) specs

-- a rule is broken at no line, or this is the first at which it is
abbrev pub IsFirstBroken : (ℕ → Type 0) → Option ℕ → Type 0
IsFirstBroken Rule found = MatchOption found ((line : ℕ) → ¬ Rule line)
    (λ line. Rule line × ((earlier : ℕ) → earlier < line → ¬ Rule earlier))

-- ---- pieces by the plans of boards

-- these are the plans of a session, and its operations with what their lines show
pub record AreOf (boards : List BoardSpec) (scripts : List (List Step)) (shown : Shown) (plans : List (List ClientBodies))
    (lines : List AskedLine) : Type 0 where
  pub plans' : plans ≡ plans_from 0 boards scripts
  pub lines' : lines ≡ asked_lines scripts shown

-- what a client asks of a board, by these plans
abbrev pub plan_at : List (List ClientBodies) → ℕ → ℕ → ClientBodies
plan_at plans board client = unwrap_or (slice_get (unwrap_or (slice_get plans board) []) client) no_bodies

-- where the pieces of an operation stand, by these plans
abbrev pub planned_pieces : List (List ClientBodies) → AskedLine → List PieceAt
planned_pieces plans asking =
    pieces_unless asking.ask.denied
    (unwrap_or (slice_get (plan_at plans asking.ask.op.board asking.client).pieces asking.number) [])

-- those of an operation, where it is on this board
abbrev pub planned_in : List (List ClientBodies) → ℕ → AskedLine → List ShownPiece
planned_in plans board asking =
    if asking.ask.op.board == board then with_places asking (planned_pieces plans asking) asking.shows.1 else []

-- the pieces on a board that are shown with a place, by these plans
abbrev pub planned_shown : List (List ClientBodies) → ℕ → List AskedLine → List ShownPiece
planned_shown plans board lines = flat_map (planned_in plans board) lines

-- what the code keeps of a piece that is shown
abbrev pub piece_kept : PieceShown → ShownPiece
piece_kept piece = record {
  line = piece.line;
  client = piece.client;
  body = piece.body;
  index = piece.index;
  place = piece.place;
  transaction = piece.transaction;
}

-- ---- the order of the text

-- a piece is shown before another: in no later line, and of no later client or body
pub record StandsBefore (earlier later : ShownPiece) : Type 0 where
  pub line : earlier.line ≤ later.line
  pub body : (earlier.client < later.client) ⊎ ((earlier.client ≡ later.client) × (earlier.body ≤ later.body))

-- the lesser of two lines, where some rule is broken at each
abbrev pub earliest_of : Option ℕ → Option ℕ → Option ℕ
earliest_of None other = other
earliest_of (Some line) None = Some line
earliest_of (Some line) (Some other) = if nat_le line other then Some line else Some other

-- a piece disagrees with one that is shown before it, of which this is the last, where its place is taken or not
abbrev pub disagrees : Option ShownPiece → Bool → ShownPiece → Bool
disagrees None taken piece = false
disagrees (Some last) taken piece =
    if last.client == piece.client && last.body == piece.body then not (last.place == piece.place)
    else taken || (last.client == piece.client && nat_le piece.place last.place)

-- the place that a piece is shown with
abbrev pub place_of : ShownPiece → ℕ
place_of piece = piece.place
