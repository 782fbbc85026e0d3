-- The text of a transcript is cut into the texts of its lines.
use Rattle.std.proofs.Common.{◌≡◌, ℕ, ◌+◌, List, [], ◌∷◌, ◌++◌, map, refl, sym, ap, ◌∙◌, append_assoc, append-nil}
use Rattle.std.specs.List.{AllByRecursion, AllZip, flat_map}
use Rattle.board_specs.specs.declared.spec.BoardSpec.{BoardSpec}
use Rattle.script_steps.specs.declared.operation.Step.{Step}
use Rattle.script_steps.specs.Rulings.{Asked, asked_operations}
use Rattle.transcript.specs.declared.line.BoardLine.{BoardLine}
use Rattle.transcript.specs.declared.line.OpLine.{OpLine}
use Rattle.transcript.specs.Lines.{Showing}
use Rattle.transcript.specs.Text.{board_text, boards_text, clients_text, heading, line_text, lines_text}
use Rattle.transcript_reader.specs.declared.shown.Shown.{Shown}
use Rattle.transcript_reader.specs.Entries.{IsLineOf, line_under, lines_of, onto_first}
use Rattle.transcript_reader.specs.Shown.{HaveNames, IsOneLine, IsShownBy, clients_under, lines_under}
use Rattle.transcript_reader.specs.Walks.{client_texts}
use Rattle.transcript_reader.proofs.LawLines.{IsLine, board_line, first_and_rest, heading_line, name_plain, operation_line}

cut_plain : (front rest : List ℕ) → IsOneLine front
    → lines_of (front ++ 10 ∷ rest) ≡ (front ++ 10 ∷ []) ∷ lines_of rest
cut_plain [] rest plain = refl
cut_plain (b ∷ front) rest plain =
    let parts = first_and_rest b front plain in
    rw parts.0 (ap (onto_first b) (cut_plain front rest parts.1))

cut_line : (line rest : List ℕ) → IsLine line → lines_of (line ++ rest) ≡ line ∷ lines_of rest
unfolding IsLine
cut_line line rest (front, plain, is) =
    ap (λ (t : List ℕ). lines_of (t ++ rest)) is
    ∙ (ap lines_of (append_assoc front (10 ∷ []) rest)
    ∙ (cut_plain front rest plain ∙ ap (λ (t : List ℕ). t ∷ lines_of rest) (sym is)))

cut_lines : {A : Type 0} (text_of : A → List ℕ) (xs : List A) (rest : List ℕ)
    → AllByRecursion (λ (x : A). IsLine (text_of x)) xs
    → lines_of (flat_map text_of xs ++ rest) ≡ map text_of xs ++ lines_of rest
cut_lines text_of [] rest all = refl
cut_lines text_of (x ∷ xs) rest all =
    ap lines_of (append_assoc (text_of x) (flat_map text_of xs) rest)
    ∙ (cut_line (text_of x) (flat_map text_of xs ++ rest) all.0
    ∙ ap (λ (ls : List (List ℕ)). text_of x ∷ ls) (cut_lines text_of xs rest all.1))

abbrev AreLines : List OpLine → Type 0
AreLines lines = AllByRecursion (λ (line : OpLine). IsLine (line_text line)) lines

cut_clients : (n : ℕ) (clients : List (List OpLine)) (rest : List ℕ) → AllByRecursion AreLines clients
    → lines_of (clients_text n clients ++ rest) ≡ client_texts n clients ++ lines_of rest
cut_clients n [] rest all = refl
cut_clients n (lines ∷ clients) rest all =
    let more = clients_text (n + 1) clients ++ rest in
    ap lines_of (append_assoc (heading n ++ lines_text lines) (clients_text (n + 1) clients) rest
    ∙ append_assoc (heading n) (lines_text lines) more)
    ∙ (cut_line (heading n) (lines_text lines ++ more) (heading_line n)
    ∙ ap (λ (ls : List (List ℕ)). heading n ∷ ls)
    (cut_lines line_text lines more all.0
    ∙ (ap (λ (ls : List (List ℕ)). map line_text lines ++ ls) (cut_clients (n + 1) clients rest all.1)
    ∙ sym (append_assoc (map line_text lines) (client_texts (n + 1) clients) (lines_of rest)))))

cut_boards : (shown : List BoardLine) → AllByRecursion (λ (line : BoardLine). IsLine (board_text line)) shown
    → lines_of (boards_text shown) ≡ map board_text shown
cut_boards shown all =
    ap lines_of (sym (append-nil (boards_text shown)))
    ∙ (cut_lines board_text shown [] all ∙ append-nil (map board_text shown))

-- ---- by their names

abbrev HaveBoardNames : List BoardSpec → Type 0
HaveBoardNames boards = AllByRecursion (λ (spec : BoardSpec). IsOneLine spec.name) boards

abbrev HaveRegisterNames : List Asked → Type 0
HaveRegisterNames asks = AllByRecursion (λ (ask : Asked). IsOneLine ask.op.name) asks

are_operations : (boards : List BoardSpec) (n : ℕ) (asks : List Asked) (shows : List Showing) → HaveBoardNames boards
    → HaveRegisterNames asks → AreLines (lines_under boards n asks shows)
are_operations boards n [] shows names registers = tt
are_operations boards n (ask ∷ asks) [] names registers = tt
are_operations boards n (ask ∷ asks) (s ∷ shows) names registers = (
  operation_line (line_under boards n ask s) (name_plain boards ask.op.board names) registers.0,
  are_operations boards (n + 1) asks shows names registers.1,
)

are_clients : (boards : List BoardSpec) (scripts : List (List Step)) (clients : List (List Showing))
    → HaveBoardNames boards → AllByRecursion (λ (steps : List Step). HaveRegisterNames (asked_operations steps)) scripts
    → AllByRecursion AreLines (clients_under boards scripts clients)
are_clients boards [] clients names registers = tt
are_clients boards (steps ∷ scripts) [] names registers = tt
are_clients boards (steps ∷ scripts) (shows ∷ clients) names registers = (
  are_operations boards 1 (asked_operations steps) shows names registers.0,
  are_clients boards scripts clients names registers.1,
)

are_boards : (specs : List BoardSpec) (shown : List BoardLine) → HaveBoardNames specs → AllZip IsLineOf specs shown
    → AllByRecursion (λ (line : BoardLine). IsLine (board_text line)) shown
are_boards [] [] names are = tt
are_boards [] (s ∷ shown) names are = absurd are
are_boards (spec ∷ specs) [] names are = absurd are
are_boards (spec ∷ specs) (s ∷ shown) names are =
    (board_line spec s names.0 are.0, are_boards specs shown names.1 are.1)

-- the lines of the text of a transcript, in order
pub lines_shown : (boards : List BoardSpec) (scripts : List (List Step)) (text : List ℕ) (shown : Shown)
    → HaveNames boards scripts → IsShownBy boards scripts text shown
    → lines_of text
    ≡ client_texts 1 (clients_under boards scripts shown.clients) ++ map board_text shown.boards
lines_shown boards scripts text shown names is =
    let clients = clients_under boards scripts shown.clients in
    ap lines_of is.spelled
    ∙ (cut_clients 1 clients (boards_text shown.boards)
    (are_clients boards scripts shown.clients names.boards' names.registers')
    ∙ ap (λ (ls : List (List ℕ)). client_texts 1 clients ++ ls)
    (cut_boards shown.boards (are_boards boards shown.boards names.boards' is.boards')))
