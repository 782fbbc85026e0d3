-- WHAT A TEXT SHOWS of a session: what each operation came to and its places, and the lines of the boards. Profile.
use Rattle.std.specs.Prelude.{◌≡◌, ℕ, ◌+◌, ◌==◌, Bool, true, not, List, [], ◌∷◌}
use Rattle.std.specs.List.{AllByRecursion, AllZip, list_all}
use Rattle.board_specs.specs.declared.spec.BoardSpec.{BoardSpec}
use Rattle.script_steps.specs.declared.operation.Step.{Step}
use Rattle.script_steps.specs.Rulings.{Asked, asked_operations}
use Rattle.script_plans.specs.declared.greeting.Greeting.{Greeting}
use Rattle.script_plans.specs.declared.greeting.Greeting.TheVariants.{Silent, Down}
use Rattle.board_history.specs.Runs.{greeting_of}
use Rattle.transcript.specs.declared.line.OpLine.{OpLine}
use Rattle.transcript.specs.declared.line.BoardLine.{BoardLine}
use Rattle.transcript.specs.declared.line.BoardLine.TheVariants as board_lines
use Rattle.transcript.specs.Lines.{Showing, Transcript}
use Rattle.transcript.specs.Text.{transcript_text}
use Rattle.transcript_reader.specs.declared.shown.Shown.{Shown}
use Rattle.transcript_reader.specs.Entries.{CanShowIn, IsLineOf, line_under}

-- the lines of a client's operations from a number on, each of which shows what stands in its place
abbrev pub lines_under : List BoardSpec → ℕ → List Asked → List Showing → List OpLine
lines_under boards number [] shows = []
lines_under boards number (ask ∷ asks) [] = []
lines_under boards number (ask ∷ asks) (first ∷ shows) =
    line_under boards number ask first ∷ lines_under boards (number + 1) asks shows

abbrev pub clients_under : List BoardSpec → List (List Step) → List (List Showing) → List (List OpLine)
clients_under boards [] clients = []
clients_under boards (steps ∷ scripts) [] = []
clients_under boards (steps ∷ scripts) (shows ∷ clients) =
    lines_under boards 1 (asked_operations steps) shows ∷ clients_under boards scripts clients

-- The transcript of a session that shows this: its headings, numbers, verbs and names are those of the session.
abbrev pub transcript_under : List BoardSpec → List (List Step) → Shown → Transcript
transcript_under boards scripts shown =
    record { clients = clients_under boards scripts shown.clients; boards = shown.boards }

-- what the line of a board tells of its greeting
abbrev pub greeting_in : BoardSpec → BoardLine → Greeting
greeting_in spec (board_lines.Live name sent replied timed_out lost) = greeting_of spec.link
greeting_in spec (board_lines.Silent name) = Silent
greeting_in spec (board_lines.Down name) = Down

abbrev pub greetings_in : List BoardSpec → List BoardLine → List Greeting
greetings_in [] lines = []
greetings_in (spec ∷ specs) [] = []
greetings_in (spec ∷ specs) (line ∷ lines) = greeting_in spec line ∷ greetings_in specs lines

-- each operation of a client shows what it can
abbrev pub CanShowAll : List Greeting → List Step → List Showing → Type 0
CanShowAll told steps shows = AllZip (CanShowIn told) (asked_operations steps) shows

-- The text is the transcript of a session that shows this, each operation and each board what it can.
pub record IsShownBy (boards : List BoardSpec) (scripts : List (List Step)) (text : List ℕ) (shown : Shown) : Type 0
  where
    pub spelled : text ≡ transcript_text (transcript_under boards scripts shown)
    pub clients' : AllZip (CanShowAll (greetings_in boards shown.boards)) scripts shown.clients
    pub boards' : AllZip IsLineOf boards shown.boards

-- ---- names

abbrev pub is_no_line_feed : ℕ → Bool
is_no_line_feed byte = not (byte == 10)

abbrev pub IsOneLine : List ℕ → Type 0
IsOneLine name = list_all is_no_line_feed name ≡ true

-- no name of a board or of a register has a line feed, as no id has one
pub record HaveNames (boards : List BoardSpec) (scripts : List (List Step)) : Type 0 where
  pub boards' : AllByRecursion (λ (spec : BoardSpec). IsOneLine spec.name) boards
  pub registers' : AllByRecursion (λ steps. AllByRecursion (λ (ask : Asked). IsOneLine ask.op.name) (asked_operations steps)) scripts
