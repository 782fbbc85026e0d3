-- What the lines of scripts say. Profile; the operations are uHAL's.
use Rattle.std.specs.Prelude.{ℕ, Bool, true, false, ◌&&◌, ◌||◌, ◌==◌, nat_le, if◌then◌else◌, List, [], ◌∷◌, length}
use Rattle.std.specs.Prelude.{slice_index, codes, Option, Some, None}
use Rattle.std.specs.List.{filter}
use Rattle.std.specs.Str.{bytes_eq}
use Rattle.ipb_base.specs.Digits.{number_in_text}
use Rattle.ipb_base.specs.Lists.{first_named}
use Rattle.script_lang.specs.declared.call.Command.{Command}
use Rattle.script_lang.specs.declared.call.Command.TheVariants as says
use Rattle.script_steps.specs.declared.operation.Verb.{Verb}
use Rattle.script_steps.specs.declared.operation.Verb.TheVariants.{Read, Write, ReadBlock, WriteBlock, RmwBits, RmwSum}
use Rattle.script_lang.specs.Texts.{◌>>=◌, cut_at}

-- a space or a tab
abbrev pub is_blank : ℕ → Bool
is_blank byte = byte == 32 || byte == 9

-- a byte at the front of the first piece
abbrev pub with_first : ℕ → List (List ℕ) → List (List ℕ)
with_first byte [] = (byte ∷ []) ∷ []
with_first byte (piece ∷ pieces) = (byte ∷ piece) ∷ pieces

-- what stands before the first blank, between blanks and after the last one
abbrev pub pieces : List ℕ → List (List ℕ)
pieces [] = [] ∷ []
pieces (byte ∷ text) = if is_blank byte then [] ∷ pieces text else with_first byte (pieces text)

abbrev pub is_word : List ℕ → Bool
is_word [] = false
is_word (byte ∷ rest) = true

-- the words of a line: the pieces that are not empty
abbrev pub words : List ℕ → List (List ℕ)
words text = filter is_word (pieces text)

abbrev pub is_comment : List ℕ → Bool
is_comment [] = false
is_comment (byte ∷ rest) = byte == 35

-- the verbs, each beside its name
abbrev pub verbs : List (List ℕ × Verb)
verbs =
    (codes "read", Read)
    ∷ (codes "write", Write)
    ∷ (codes "readblock", ReadBlock)
    ∷ (codes "writeblock", WriteBlock)
    ∷ (codes "rmwbits", RmwBits)
    ∷ (codes "rmwsum", RmwSum)
    ∷ []

abbrev pub verb_named : List ℕ → Option Verb
verb_named word = first_named verbs word

-- the numbers that words are, if all of them are numbers
abbrev pub numbers_of : List (List ℕ) → Option (List ℕ)
numbers_of [] = Some []
numbers_of (word ∷ words) = do
  number ← number_in_text word
  numbers ← numbers_of words
  Some (number ∷ numbers)

-- an operation has these numbers: a value, a count from 1, one or more values, two terms or an addend
abbrev pub takes : Verb → List ℕ → Bool
takes Read numbers = length numbers == 0
takes Write numbers = length numbers == 1
takes ReadBlock numbers = length numbers == 1 && nat_le 1 (slice_index numbers 0)
takes WriteBlock numbers = nat_le 1 (length numbers)
takes RmwBits numbers = length numbers == 2
takes RmwSum numbers = length numbers == 1

-- a register by the name of its board, a colon and its own name, and then numbers
abbrev pub call_of : Verb → List (List ℕ) → Option Command
call_of verb [] = None
call_of verb (place ∷ words) = do
  names ← cut_at 58 place
  numbers ← numbers_of words
  if takes verb numbers
      then Some (says.Ask (record { verb = verb; board = names.0; name = names.1; numbers = numbers }))
      else None

abbrev pub dispatch_of : List (List ℕ) → Option Command
dispatch_of [] = Some says.Dispatch
dispatch_of (word ∷ words) = None

-- the line of these words; nothing where the words are no line
abbrev pub command_of : List (List ℕ) → Option Command
command_of [] = Some says.Nothing
command_of (word ∷ words) =
    if is_comment word then Some says.Nothing
    else if bytes_eq word (codes "dispatch") then dispatch_of words
    else (verb_named word >>= λ verb. call_of verb words)

-- a blank stands at the front
abbrev pub starts_blank : List ℕ → Bool
starts_blank [] = false
starts_blank (byte ∷ rest) = is_blank byte
