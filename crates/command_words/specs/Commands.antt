-- The words of the program's command line, behind its name: the commands that there are. Profile.
use Rattle.std.specs.Prelude.{ℕ, Bool, false, not, ◌&&◌, ◌==◌, if◌then◌else◌, List, [], ◌∷◌, codes, Option, Some, None}
use Rattle.std.specs.Prelude.{option_and_then}
use Rattle.std.specs.Str.{bytes_eq}
use Rattle.ipb_base.specs.Digits.{digits_number, is_between}
use Rattle.ipb_base.specs.Lists.{first_named}
use Rattle.command_words.specs.declared.command.Command.{Command}
use Rattle.command_words.specs.declared.command.Command.TheVariants.{Run, Check, Serve, Load, Audit}
use Rattle.command_words.specs.declared.command.Command.TheVariants.{Record, Describe, Undescribe, Save, Apply}
use Rattle.ipb_base.specs.Numbers.{greatest_port, most_connections, most_operations}

-- a word begins with a hyphen
abbrev pub is_option : List ℕ → Bool
is_option [] = false
is_option (byte ∷ bytes) = byte == 45

-- the number, if it is one from `least` to `most`
abbrev pub within : ℕ → ℕ → ℕ → Option ℕ
within least most number = if is_between least most number then Some number else None

-- the number from `least` to `most` that 1 to 10 decimal digits write; leading zeros count as digits
abbrev pub number_between : ℕ → ℕ → List ℕ → Option ℕ
number_between least most word = option_and_then (within least most) (digits_number 10 10 word)

-- the commands that are a name alone, each beside its name
abbrev pub alone : List (List ℕ × Command)
alone =
    (codes "run", Run)
    ∷ (codes "audit", Audit)
    ∷ (codes "record", Record)
    ∷ (codes "describe", Describe)
    ∷ (codes "undescribe", Undescribe)
    ∷ (codes "save", Save)
    ∷ (codes "apply", Apply)
    ∷ []

abbrev pub command_of_one : List ℕ → Option Command
command_of_one word = first_named alone word

-- a load of at least one operation
abbrev pub load_of : Option ℕ → Option Command
load_of None = None
load_of (Some count) = Some (Load count)

abbrev pub load_command_of : List ℕ → Option Command
load_command_of count = load_of (number_between 1 most_operations count)

-- `check` and the name of a table, or `load` and this number
abbrev pub command_of_two : List ℕ → List ℕ → Option Command
command_of_two word other =
    if bytes_eq word (codes "check") && not (is_option other) then Some (Check other)
    else if bytes_eq word (codes "load") then load_command_of other
    else None

-- where both numbers are right
abbrev pub serve_of : Option ℕ → Option ℕ → Option Command
serve_of None count = None
serve_of (Some port) None = None
serve_of (Some port) (Some count) = Some (Serve port count)

-- a port from 1, and at least one connection
abbrev pub serve_command_of : List ℕ → List ℕ → Option Command
serve_command_of port count = serve_of (number_between 1 greatest_port port) (number_between 1 most_connections count)

-- `serve` and these two numbers
abbrev pub command_of_three : List ℕ → List ℕ → List ℕ → Option Command
command_of_three word port count = if bytes_eq word (codes "serve") then serve_command_of port count else None

-- The command that words are: a name alone, as `run`; `check` and the name of a table, which is any text that does not
-- begin with a hyphen; `serve`, a port and a number of connections; or `load` and a number of operations. A number is 1
-- to 10 decimal digits without a sign. All other words are none.
abbrev pub command_of : List (List ℕ) → Option Command
command_of [] = None
command_of (word ∷ []) = command_of_one word
command_of (word ∷ (first ∷ [])) = command_of_two word first
command_of (word ∷ (first ∷ (second ∷ []))) = command_of_three word first second
command_of (word ∷ (first ∷ (second ∷ (third ∷ others)))) = None

-- the line for words that are no command
abbrev pub usage_text : List ℕ
usage_text =
    codes "usage: ipbus run | check TABLE | serve PORT COUNT | load COUNT | audit | record | describe | undescribe | save | apply\n"
