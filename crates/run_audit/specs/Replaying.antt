-- How the code replays a board: what private functions promise one another. No public clause speaks of these.
use Rattle.std.specs.Prelude.{◌≡◌, ℕ, zero, suc, ◌+◌, ◌≤◌, ◌==◌, if◌then◌else◌, List, [], ◌∷◌, ◌++◌, length, map}
use Rattle.std.specs.Prelude.{Option, Some, None, unwrap_or}
use Rattle.std.specs.List.{AllByRecursion, AllZip}
use Rattle.transaction_codec.specs.declared.room.TheConstants.{LONGEST_BODY}
use Rattle.board_bus.specs.Cells.{CellMap}
use Rattle.board_bus.specs.Bodies.{run_body}
use Rattle.lane_record.specs.declared.outcome.Outcome.{Outcome}
use Rattle.lane_record.specs.declared.outcome.Outcome.TheVariants.{Replied, Unsent}
use Rattle.script_plans.specs.declared.board_run.ClientPart.{ClientPart}
use Rattle.script_plans.specs.Plan.{ClientBodies}
use Rattle.board_history.specs.Order.{Placed, with_place}
use Rattle.run_audit.specs.declared.replaying.PlacedBody.{PlacedBody}
use Rattle.run_audit.specs.declared.replaying.PlacedReply.{PlacedReply}
use Rattle.board_specs.specs.declared.spec.BoardSpec.{BoardSpec}
use Rattle.script_plans.specs.declared.board_run.BoardRun.{BoardRun}
use Rattle.board_history.specs.Runs.{greeting_of, opens_with}
use Rattle.run_audit.specs.declared.replaying.BoardPieces.{BoardPieces}
use Rattle.script_steps.specs.declared.operation.Step.{Step}
use Rattle.transcript_reader.specs.declared.shown.Shown.{Shown}
use Rattle.transcript_reader.specs.Entries.{IsLineOf}
use Rattle.transcript_reader.specs.Shown.{CanShowAll, greetings_in}
use Rattle.run_audit.specs.AskedLines.{AskedLine, ShownPiece, asked_lines, pieces_shown}
use Rattle.run_audit.specs.Replay.{parts_from, place_shown, shown_order}
use Rattle.run_audit.specs.Steps.{replays_from, piece_kept}

-- ---- the places that are shown, in the shape of the plans

-- those of the bodies of a client from a number on
abbrev pub row_from : List ShownPiece → ℕ → ℕ → List (List ℕ) → List (Option ℕ)
row_from pieces client number [] = []
row_from pieces client number (body ∷ bodies) =
    place_shown pieces client number ∷ row_from pieces client (number + 1) bodies

-- those of the clients from a number on
abbrev pub rows_from : List ShownPiece → ℕ → List ClientBodies → List (List (Option ℕ))
rows_from pieces client [] = []
rows_from pieces client (plan ∷ plans) = row_from pieces client 0 plan.bodies ∷ rows_from pieces (client + 1) plans

-- the row of bodies of which no place is shown
abbrev pub no_places : List (List ℕ) → List (Option ℕ)
no_places [] = []
no_places (body ∷ bodies) = None ∷ no_places bodies

-- a place of the body of this number, which counts where none was known
abbrev pub with_mark : ℕ → ℕ → List (Option ℕ) → List (Option ℕ)
with_mark body place [] = []
with_mark zero place (known ∷ row) = Some (unwrap_or known place) ∷ row
with_mark (suc body) place (known ∷ row) = known ∷ with_mark body place row

-- the same in the row of this client
abbrev pub marked_in : ℕ → ℕ → ℕ → List (List (Option ℕ)) → List (List (Option ℕ))
marked_in client body place [] = []
marked_in zero body place (row ∷ rows) = with_mark body place row ∷ rows
marked_in (suc client) body place (row ∷ rows) = row ∷ marked_in client body place rows

-- all that pieces show, in their order
abbrev pub all_marked : List ShownPiece → List (List (Option ℕ)) → List (List (Option ℕ))
all_marked [] rows = rows
all_marked (piece ∷ pieces) rows = all_marked pieces (marked_in piece.client piece.body piece.place rows)

-- ---- the bodies that have a place

-- what the code keeps of such a body
abbrev pub placed_of : PlacedBody → Placed
placed_of body = record { place = body.place; body = body.body.now }

-- those of a client
abbrev pub placed_in_row : List (List ℕ) → List (Option ℕ) → List Placed
placed_in_row [] row = []
placed_in_row (body ∷ bodies) [] = []
placed_in_row (body ∷ bodies) (place ∷ row) = with_place body place ++ placed_in_row bodies row

-- those of all clients
abbrev pub placed_in_rows : List ClientBodies → List (List (Option ℕ)) → List Placed
placed_in_rows [] rows = []
placed_in_rows (plan ∷ plans) [] = []
placed_in_rows (plan ∷ plans) (row ∷ rows) = placed_in_row plan.bodies row ++ placed_in_rows plans rows

-- ---- what the bus replies

-- to bodies in their order
abbrev pub replies_from : CellMap → List Placed → List PlacedReply
replies_from cells [] = []
replies_from cells (placed ∷ order) =
    let first = run_body cells placed.body in
    record { place = placed.place; words = first.reply } ∷ replies_from first.cells order

-- the first at a place
abbrev pub reply_among : List PlacedReply → ℕ → List ℕ
reply_among [] place = []
reply_among (reply ∷ replies) place = if reply.place == place then reply.words else reply_among replies place

-- ---- what became of bodies

abbrev pub outcome_among : List PlacedReply → Option ℕ → Outcome
outcome_among replies (Some place) = Replied place (reply_among replies place)
outcome_among replies None = Unsent

-- what the clients asked, and what became of it
abbrev pub parts_among : List PlacedReply → List ClientBodies → List (List (Option ℕ)) → List ClientPart
parts_among replies [] rows = []
parts_among replies (plan ∷ plans) [] = []
parts_among replies (plan ∷ plans) (row ∷ rows) =
    record { planned = plan; outcomes = map (outcome_among replies) row; lates = [] }
    ∷ parts_among replies plans rows

-- a bus executes each of these bodies
abbrev pub AreShort : List (List ℕ) → Type 0
AreShort bodies = AllByRecursion (λ body. length body ≤ LONGEST_BODY) bodies

abbrev pub HasShortBodies : ClientBodies → Type 0
HasShortBodies plan = AreShort plan.bodies

-- ---- boards

-- the run of a board on which the clients asked this, and of which these pieces are shown
abbrev pub run_of : BoardSpec → List ClientBodies → List ShownPiece → BoardRun
run_of spec plans pieces = record {
  name = spec.name;
  greeting = greeting_of spec.link;
  parts = parts_from (opens_with spec.link) (shown_order pieces plans) pieces 0 plans;
}

-- what the code keeps of the pieces of a board
abbrev pub pieces_in : BoardPieces → List ShownPiece
pieces_in pieces = map piece_kept pieces.items.items

-- those of the boards from a number on, as many as there are plans
abbrev pub shown_from : List BoardSpec → List (List Step) → List AskedLine → ℕ → List (List ClientBodies)
    → List (List ShownPiece)
shown_from boards scripts lines board [] = []
shown_from boards scripts lines board (plans ∷ later) =
    pieces_shown boards scripts board lines ∷ shown_from boards scripts lines (board + 1) later

-- the runs of boards, by what clients asked of each and by what is shown of it
abbrev pub runs_among : List BoardSpec → List (List ClientBodies) → List (List ShownPiece) → List BoardRun
runs_among [] plans pieces = []
runs_among (spec ∷ specs) [] pieces = []
runs_among (spec ∷ specs) (first ∷ plans) [] = []
runs_among (spec ∷ specs) (first ∷ plans) (shown ∷ pieces) = run_of spec first shown ∷ runs_among specs plans pieces

-- ---- replies by place

-- the places of replies do not fall
abbrev pub Rise : List PlacedReply → Type 0
Rise [] = Unit {0}
Rise (reply ∷ replies) = AllByRecursion (λ (later : PlacedReply). reply.place ≤ later.place) replies × Rise replies

-- ---- lines beside the replay

-- these are the operations of a session with what their lines show, each what it can, and the runs of its boards as they
-- are shown
pub record AreReplayed (boards : List BoardSpec) (scripts : List (List Step)) (shown : Shown) (runs : List BoardRun)
    (lines : List AskedLine) : Type 0 where
  pub lines' : lines ≡ asked_lines scripts shown
  pub runs' : runs ≡ replays_from boards scripts lines 0 boards
  pub clients' : AllZip (CanShowAll (greetings_in boards shown.boards)) scripts shown.clients
  pub boards' : AllZip IsLineOf boards shown.boards
