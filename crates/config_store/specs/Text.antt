-- The text of a configuration (TOML): for each board a table under `state`, with the value of each register that was
-- read, and a comment in place of each that was not. Profile.
use Rattle.std.specs.Prelude.{ℕ, List, [], ◌∷◌, ◌++◌, codes, Bool, true, false, ◌&&◌, Option, Some, None}
use Rattle.std.specs.List.{filter, flat_map}
use Rattle.std.specs.Str.{bytes_eq}
use Rattle.board_specs.specs.declared.spec.BoardSpec.{BoardSpec}
use Rattle.node_tree.specs.Maps.{Name}
use Rattle.script_steps.specs.declared.operation.Verb.{Verb}
use Rattle.script_steps.specs.declared.operation.Verb.TheVariants.{Read}
use Rattle.transcript.specs.declared.line.OpLine.{OpLine}
use Rattle.transcript.specs.declared.line.OpResult.{OpResult}
use Rattle.transcript.specs.declared.line.OpResult.TheVariants.{Value}
use Rattle.transcript.specs.Text.{result_text, word_text}

abbrev pub one_word : List ℕ → Option ℕ
one_word [] = None
one_word (word ∷ []) = Some word
one_word (word ∷ other ∷ words) = None

-- the word that a read gave
abbrev pub value_of : OpResult → Option ℕ
value_of (Value words) = one_word words
value_of _ = None

-- a name in quotes: with its dots it is one key
abbrev pub quoted_name : Name → List ℕ
quoted_name name = codes "\"" ++ (name ++ codes "\"")

abbrev pub value_text : Name → ℕ → List ℕ
value_text name word = quoted_name name ++ (codes " = " ++ (word_text word ++ codes "\n"))

abbrev pub comment_text : Name → OpResult → List ℕ
comment_text name result = codes "# " ++ (quoted_name name ++ (codes " " ++ (result_text result ++ codes "\n")))

abbrev pub by_value : Name → OpResult → Option ℕ → List ℕ
by_value name result None = comment_text name result
by_value name result (Some word) = value_text name word

-- the value of a register, or a comment that says what became of its read
abbrev pub register_text : OpLine → List ℕ
register_text line = by_value line.name line.result (value_of line.result)

abbrev pub is_read : Verb → Bool
is_read Read = true
is_read _ = false

-- a read on the board of this name
abbrev pub is_read_on : Name → OpLine → Bool
is_read_on board line = is_read line.verb && bytes_eq line.board board

abbrev pub heading : Name → List ℕ
heading board = codes "[state." ++ (board ++ codes "]\n")

abbrev pub registers_text : List OpLine → List ℕ
registers_text lines = flat_map register_text lines

-- the table of a board
abbrev pub board_text : List OpLine → BoardSpec → List ℕ
board_text lines board = heading board.name ++ registers_text (filter (is_read_on board.name) lines)

abbrev pub state_text : List BoardSpec → List OpLine → List ℕ
state_text boards lines = flat_map (board_text lines) boards
