-- The bytes of a transcript. Every line ends with a line feed. Profile.
use Rattle.std.specs.Prelude.{ℕ, ◌+◌, ◌-◌, List, [], ◌∷◌, ◌++◌, length, replicate, codes, false}
use Rattle.std.specs.List.{flat_map}
use Rattle.std.specs.Fmt.{decimal, digits}
use Rattle.script_steps.specs.declared.operation.Verb.{Verb}
use Rattle.script_steps.specs.declared.operation.Verb.TheVariants.{Read, Write, ReadBlock, WriteBlock, RmwBits, RmwSum}
use Rattle.transcript.specs.declared.line.LateAnswer.{LateAnswer}
use Rattle.transcript.specs.declared.line.LateAnswer.TheVariants as late_answer
use Rattle.transcript.specs.declared.line.OpResult.{OpResult}
use Rattle.transcript.specs.declared.line.OpResult.TheVariants.{Value, Done, Was, Error, Skipped, TimedOut, Late}
use Rattle.transcript.specs.declared.line.OpResult.TheVariants.{Unsent, LinkLost, Garbled, Denied}
use Rattle.transcript.specs.declared.line.OpLine.{OpLine}
use Rattle.transcript.specs.declared.line.BoardLine.{BoardLine}
use Rattle.transcript.specs.declared.line.BoardLine.TheVariants as board_lines
use Rattle.transcript.specs.Lines.{Transcript}

-- eight lower-case hexadecimal digits
abbrev pub hex_text : ℕ → List ℕ
hex_text word = replicate (8 - length (digits 16 false word)) 48 ++ digits 16 false word

-- a word is `0x` and its eight digits; all other numbers are decimal, without leading zeros
abbrev pub word_text : ℕ → List ℕ
word_text word = codes "0x" ++ hex_text word

-- a space before each word
abbrev pub words_text : List ℕ → List ℕ
words_text words = flat_map (λ word. codes " " ++ word_text word) words

abbrev pub verb_text : Verb → List ℕ
verb_text Read = codes "read"
verb_text Write = codes "write"
verb_text ReadBlock = codes "readblock"
verb_text WriteBlock = codes "writeblock"
verb_text RmwBits = codes "rmwbits"
verb_text RmwSum = codes "rmwsum"

abbrev pub value_text : List ℕ → List ℕ
value_text words = codes "=" ++ words_text words

abbrev pub was_text : ℕ → List ℕ
was_text word = codes "was " ++ word_text word

abbrev pub error_text : ℕ → ℕ → List ℕ
error_text code after = codes "error " ++ (decimal code ++ (codes " after " ++ decimal after))

abbrev pub timeout_text : ℕ → List ℕ
timeout_text rounds = codes "timeout after " ++ (decimal rounds ++ codes " rounds, execution unknown")

abbrev pub answer_text : LateAnswer → List ℕ
answer_text (late_answer.Value words) = value_text words
answer_text late_answer.Done = codes "done"
answer_text (late_answer.Was word) = was_text word
answer_text (late_answer.Error code after) = error_text code after
answer_text late_answer.Skipped = codes "skipped"
answer_text late_answer.Garbled = codes "garbled"

abbrev pub late_text : ℕ → LateAnswer → List ℕ
late_text rounds answer =
    codes "timeout after " ++ (decimal rounds ++ (codes " rounds, answered late: " ++ answer_text answer))

abbrev pub denied_text : ℕ → List ℕ
denied_text rule = codes "denied by rule " ++ decimal rule

abbrev pub result_text : OpResult → List ℕ
result_text (Value words) = value_text words
result_text Done = codes "done"
result_text (Was word) = was_text word
result_text (Error code after) = error_text code after
result_text Skipped = codes "skipped"
result_text (TimedOut rounds) = timeout_text rounds
result_text (Late rounds answer) = late_text rounds answer
result_text Unsent = codes "unsent"
result_text LinkLost = codes "link lost"
result_text Garbled = codes "garbled"
result_text (Denied rule) = denied_text rule

-- the place of the body, and the number of the transaction in it
abbrev pub place_text : ℕ × ℕ → List ℕ
place_text (place, transaction) = decimal place ++ (codes "." ++ decimal transaction)

-- places behind the first
abbrev pub more_places : List (ℕ × ℕ) → List ℕ
more_places places = flat_map (λ place. codes "," ++ place_text place) places

-- the places of an operation, joined by commas, where it has any
abbrev pub places_text : List (ℕ × ℕ) → List ℕ
places_text [] = []
places_text (first ∷ others) = codes " @" ++ (place_text first ++ more_places others)

-- the number of an operation, its verb and its register
abbrev pub asked_text : OpLine → List ℕ
asked_text line =
    decimal line.number ++ (codes " " ++ (verb_text line.verb ++ (codes " " ++ (line.board ++ (codes ":" ++ (line.name
    ++ codes " "))))))

-- the line of an operation: that, what it came to, and its places
abbrev pub line_text : OpLine → List ℕ
line_text line = asked_text line ++ (result_text line.result ++ (places_text line.places ++ codes "\n"))

abbrev pub live_text : List ℕ → ℕ → ℕ → ℕ → ℕ → List ℕ
live_text name sent replied timed_out lost =
    codes "board " ++ (name ++ (codes " places " ++ (decimal sent ++ (codes " replied " ++ (decimal replied
    ++ (codes " timeout " ++ (decimal timed_out ++ (codes " lost " ++ (decimal lost ++ codes "\n")))))))))

abbrev pub silent_text : List ℕ → List ℕ
silent_text name = codes "board " ++ (name ++ codes " silent\n")

abbrev pub down_text : List ℕ → List ℕ
down_text name = codes "board " ++ (name ++ codes " down\n")

-- the line of a board
abbrev pub board_text : BoardLine → List ℕ
board_text (board_lines.Live name sent replied timed_out lost) = live_text name sent replied timed_out lost
board_text (board_lines.Silent name) = silent_text name
board_text (board_lines.Down name) = down_text name

abbrev pub boards_text : List BoardLine → List ℕ
boards_text lines = flat_map board_text lines

-- a client's heading, and its lines
abbrev pub heading : ℕ → List ℕ
heading number = codes "client " ++ (decimal number ++ codes "\n")

abbrev pub lines_text : List OpLine → List ℕ
lines_text lines = flat_map line_text lines

abbrev pub client_text : ℕ → List OpLine → List ℕ
client_text number lines = heading number ++ lines_text lines

-- the clients from a number on
abbrev pub clients_text : ℕ → List (List OpLine) → List ℕ
clients_text number [] = []
clients_text number (lines ∷ clients) = client_text number lines ++ clients_text (number + 1) clients

-- the clients, counted from 1, and then the boards
abbrev pub transcript_text : Transcript → List ℕ
transcript_text transcript = clients_text 1 transcript.clients ++ boards_text transcript.boards
