-- The operations of a session, each with what its line in a transcript shows. Profile.
use Rattle.std.specs.Prelude.{ℕ, ◌+◌, ◌==◌, if◌then◌else◌, List, [], ◌∷◌, ◌++◌, length, slice_get}
use Rattle.std.specs.Prelude.{Option, Some, None, unwrap_or}
use Rattle.std.specs.List.{flat_map}
use Rattle.std.specs.Option.{option_map_or}
use Rattle.board_specs.specs.declared.spec.BoardSpec.{BoardSpec}
use Rattle.script_steps.specs.declared.operation.Step.{Step}
use Rattle.script_steps.specs.Rulings.{Asked, asked_operations, allowed_operations}
use Rattle.script_plans.specs.declared.greeting.Greeting.{Greeting}
use Rattle.script_plans.specs.declared.greeting.Greeting.TheVariants.{Down}
use Rattle.script_plans.specs.declared.planned.PieceAt.{PieceAt}
use Rattle.script_plans.specs.Plan.{ClientBodies, count_on, planned_on}
use Rattle.board_history.specs.Runs.{greeting_of}
use Rattle.transcript.specs.Lines.{Showing}
use Rattle.transcript_reader.specs.declared.shown.Shown.{Shown}

-- An operation and its line.
pub record AskedLine : Type 0 where
  -- the number of the line in the text, from 1
  pub line : ℕ
  -- the client, from 0
  pub client : ℕ
  -- the number of the operation, from 0, among those of its client on its board that no rule denies
  pub number : ℕ
  pub ask : Asked
  pub shows : Showing

-- the operations of a client behind these, from a line on
abbrev pub asked_behind : ℕ → ℕ → List Asked → List Asked → List Showing → List AskedLine
asked_behind line client before [] shows = []
asked_behind line client before (ask ∷ asks) [] = []
asked_behind line client before (ask ∷ asks) (first ∷ shows) =
    record {
      line = line;
      client = client;
      number = count_on ask.op.board (allowed_operations before);
      ask = ask;
      shows = first;
    }
    ∷ asked_behind (line + 1) client (before ++ ask ∷ []) asks shows

-- those of the clients from a number on, the heading of the first of which stands in this line
abbrev pub asked_from : ℕ → ℕ → List (List Step) → List (List Showing) → List AskedLine
asked_from line client [] clients = []
asked_from line client (steps ∷ scripts) [] = []
asked_from line client (steps ∷ scripts) (shows ∷ clients) =
    asked_behind (line + 1) client [] (asked_operations steps) shows
    ++ asked_from (line + 1 + length (asked_operations steps)) (client + 1) scripts clients

-- All operations of a session, in the order of the text.
abbrev pub asked_lines : List (List Step) → Shown → List AskedLine
asked_lines scripts shown = asked_from 1 0 scripts shown.clients

-- ---- what is asked of boards

-- a board of the session where it answers its greeting; one that is not there is asked nothing
abbrev pub greeting_at : List BoardSpec → ℕ → Greeting
greeting_at boards board = option_map_or (λ (spec : BoardSpec). greeting_of spec.link) (slice_get boards board) Down

-- what a client asks of a board
abbrev pub asked_of : List BoardSpec → List (List Step) → ℕ → ℕ → ClientBodies
asked_of boards scripts board client =
    planned_on board (greeting_at boards board) (unwrap_or (slice_get scripts client) [])

abbrev pub pieces_unless : Option ℕ → List PieceAt → List PieceAt
pieces_unless None pieces = pieces
pieces_unless (Some rule) pieces = []

-- where the pieces of an operation stand in the bodies of its client on its board; one that is denied has none
abbrev pub pieces_of : List BoardSpec → List (List Step) → AskedLine → List PieceAt
pieces_of boards scripts asking =
    pieces_unless asking.ask.denied
    (unwrap_or (slice_get (asked_of boards scripts asking.ask.op.board asking.client).pieces asking.number) [])

-- ---- places that are shown

-- A piece, and the place that the line of its operation shows for it.
pub record ShownPiece : Type 0 where
  -- the number of that line
  pub line : ℕ
  pub client : ℕ
  -- the body that it stands in, and its number there, both from 0
  pub body : ℕ
  pub index : ℕ
  -- the place of a body and the number of a transaction in it, as they are shown
  pub place : ℕ
  pub transaction : ℕ

abbrev pub shown_piece : AskedLine → PieceAt → ℕ × ℕ → ShownPiece
shown_piece asking piece at = record {
  line = asking.line;
  client = asking.client;
  body = piece.body;
  index = piece.index;
  place = at.0;
  transaction = at.1;
}

-- the places of a line belong to the pieces of its operation in order
abbrev pub with_places : AskedLine → List PieceAt → List (ℕ × ℕ) → List ShownPiece
with_places asking [] places = []
with_places asking (piece ∷ pieces) [] = []
with_places asking (piece ∷ pieces) (at ∷ places) = shown_piece asking piece at ∷ with_places asking pieces places

abbrev pub pieces_in : List BoardSpec → List (List Step) → ℕ → AskedLine → List ShownPiece
pieces_in boards scripts board asking =
    if asking.ask.op.board == board then with_places asking (pieces_of boards scripts asking) asking.shows.1 else []

-- All pieces on a board that are shown with a place, in the order of the text.
abbrev pub pieces_shown : List BoardSpec → List (List Step) → ℕ → List AskedLine → List ShownPiece
pieces_shown boards scripts board lines = flat_map (pieces_in boards scripts board) lines
