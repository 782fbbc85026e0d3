-- The lines that the transcript of a session has, one after another, and what may stand in each. Profile.
use Rattle.std.specs.Prelude.{◌≡◌, ℕ, ◌+◌, ◌<◌, ◌^◌, ◌==◌, eqb, if◌then◌else◌, List, [], ◌∷◌, ◌++◌, length, map}
use Rattle.std.specs.Prelude.{slice_get, Option, Some, None}
use Rattle.std.specs.Option.{option_map_or}
use Rattle.std.specs.Cmp.Lexicographic.{pointwise}
use Rattle.status_packet.specs.Range.{IsMtu}
use Rattle.board_bus.specs.Ranges.{refusal_of}
use Rattle.board_specs.specs.declared.spec.BoardSpec.{BoardSpec}
use Rattle.board_specs.specs.declared.spec.LinkSpec.{LinkSpec}
use Rattle.board_specs.specs.declared.spec.LinkSpec.TheVariants.{Sim, Udp}
use Rattle.script_steps.specs.declared.operation.Step.{Step}
use Rattle.script_steps.specs.Rulings.{Asked, asked_operations}
use Rattle.script_plans.specs.declared.greeting.Greeting.{Greeting}
use Rattle.script_plans.specs.declared.greeting.Greeting.TheVariants.{Silent, Down}
use Rattle.board_history.specs.Runs.{greeting_of}
use Rattle.transcript.specs.declared.line.OpLine.{OpLine}
use Rattle.transcript.specs.declared.line.BoardLine.{BoardLine}
use Rattle.transcript.specs.declared.line.BoardLine.TheVariants as board_lines
use Rattle.transcript.specs.Lines.{Showing, line_with}
use Rattle.transcript.specs.Text.{board_text, down_text, heading, line_text, silent_text}
use Rattle.transcript_reader.specs.Results.{CanShow}

-- ---- boards that are known

-- a board of this process, whose ranges open a bus and whose packets have a length that IPbus knows
abbrev pub IsLinkHere : LinkSpec → Type 0
IsLinkHere (Sim mtu buffers first ranges fates) = IsMtu mtu × (refusal_of ranges ≡ None)
IsLinkHere (Udp address port wait) = ⊥

abbrev pub IsHere : BoardSpec → Type 0
IsHere spec = IsLinkHere spec.link

-- ---- the lines of a session

-- the heading of a client, by its number from 1; the line of an operation, by its number among those of its client; or
-- the line of a board
pub data Entry : Type 0 where
  Heading : ℕ → Entry
  Operation : ℕ → Asked → Entry
  Board : BoardSpec → Entry

-- the operations of a client from a number on
abbrev pub operations_from : ℕ → List Asked → List Entry
operations_from number [] = []
operations_from number (ask ∷ asks) = Operation number ask ∷ operations_from (number + 1) asks

-- the clients from a number on
abbrev pub clients_from : ℕ → List (List Step) → List Entry
clients_from client [] = []
clients_from client (steps ∷ scripts) =
    Heading client ∷ (operations_from 1 (asked_operations steps) ++ clients_from (client + 1) scripts)

-- The lines of a transcript: of each client a heading and its operations, denied or not, and then those of the boards.
abbrev pub entries : List BoardSpec → List (List Step) → List Entry
entries boards scripts = clients_from 1 scripts ++ map Board boards

-- ---- the lines of a text

abbrev pub onto_first : ℕ → List (List ℕ) → List (List ℕ)
onto_first byte [] = (byte ∷ []) ∷ []
onto_first byte (line ∷ lines) = (byte ∷ line) ∷ lines

-- a text is cut behind each line feed, and what follows the last one is a line without
abbrev pub lines_of : List ℕ → List (List ℕ)
lines_of [] = []
lines_of (byte ∷ bytes) =
    if byte == 10 then (byte ∷ []) ∷ lines_of bytes else onto_first byte (lines_of bytes)

-- ---- what they tell of boards

-- what a text tells of a board by its line: that it was silent or down; by any other, or none, that it was live
abbrev pub told_by : BoardSpec → List ℕ → Greeting
told_by spec line =
    if pointwise eqb line (silent_text spec.name) then Silent
    else if pointwise eqb line (down_text spec.name) then Down
    else greeting_of spec.link

abbrev pub told_in : BoardSpec → Option (List ℕ) → Greeting
told_in spec line = option_map_or (told_by spec) line (greeting_of spec.link)

-- the same of boards whose lines begin at a position
abbrev pub told_from : ℕ → List BoardSpec → List (List ℕ) → List Greeting
told_from at [] lines = []
told_from at (spec ∷ specs) lines = told_in spec (slice_get lines at) ∷ told_from (at + 1) specs lines

-- What the lines of a text tell of the boards of a session, which stand behind those of its clients.
abbrev pub told_boards : List BoardSpec → List (List Step) → List (List ℕ) → List Greeting
told_boards boards scripts lines = told_from (length (clients_from 1 scripts)) boards lines

-- ---- what may stand in a line

abbrev pub name_at : List BoardSpec → ℕ → List ℕ
name_at boards board = option_map_or (λ (spec : BoardSpec). spec.name) (slice_get boards board) []

-- the line of an operation that shows this
abbrev pub line_under : List BoardSpec → ℕ → Asked → Showing → OpLine
line_under boards number ask shows = line_with number ask.op (name_at boards ask.op.board) shows

-- on a board that is there, by what is told of the boards
abbrev pub CanShowIn : List Greeting → Asked → Showing → Type 0
CanShowIn told ask shows = (greeting : Greeting) × (slice_get told ask.op.board ≡ Some greeting)
    × CanShow greeting ask shows

abbrev pub IsCount : ℕ → Type 0
IsCount n = n < 2 ^ 64

-- the line of a board has its name, and numbers of 64 bits
abbrev pub IsLineOf : BoardSpec → BoardLine → Type 0
IsLineOf spec (board_lines.Live name sent replied timed_out lost) =
    (name ≡ spec.name) × IsCount sent × IsCount replied × IsCount timed_out × IsCount lost
IsLineOf spec (board_lines.Silent name) = name ≡ spec.name
IsLineOf spec (board_lines.Down name) = name ≡ spec.name

-- This text of a line may stand there, where this is told of the boards.
abbrev pub MayStand : List BoardSpec → List Greeting → Entry → List ℕ → Type 0
MayStand boards told (Heading client) line = line ≡ heading client
MayStand boards told (Operation number ask) line =
    (shows : Showing) × CanShowIn told ask shows × (line ≡ line_text (line_under boards number ask shows))
MayStand boards told (Board spec) line = (shown : BoardLine) × IsLineOf spec shown × (line ≡ board_text shown)
