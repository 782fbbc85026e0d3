-- What the program owes to its words and its input. `before` and `now` are the bytes that the input had left at first
-- and in the end, where it tells them. Profile.
use Rattle.std.specs.Prelude.{◌≡◌, ◌⊎◌, ◌≤◌, ℕ, List, [], length, map, Option, Some, None, true}
use Rattle.std.specs.Prelude.{string_bytes, String}
use Rattle.std.specs.declared.alloc.Global.{Global}
use Rattle.std.specs.Io.KnownBytes.{prepend_known, append_known, IsAtEnd}
use Rattle.ipb_outside.specs.Told.{AppendsPart}
use Rattle.board_specs.specs.declared.spec.LinkSpec.{LinkSpec}
use Rattle.board_history.specs.Links.{LinkReport}
use Rattle.command_words.specs.declared.command.Command.{Command}
use Rattle.command_words.specs.Commands.{command_of, usage_text}
use Rattle.command_terms.specs.Numbers.{usage_status, refused_status}
use Rattle.command_terms.specs.Outside.{GivenBack}
use Rattle.command_terms.specs.Terms.{Terms, most_bytes}
use Rattle.ipbus_program.specs.Commands.{terms_of}

-- the words are this command, or none
abbrev pub AreCommand : List (String Global) → Command → Type 0
AreCommand words command = command_of (map string_bytes words) ≡ Some command

abbrev pub AreNoCommand : List (String Global) → Type 0
AreNoCommand words = command_of (map string_bytes words) ≡ None

-- ---- the input

-- it was read to its end, and these bytes are all that it had
pub record IsReadToEnd (before now : Option (List ℕ)) (bytes : List ℕ) : Type 0 where
  pub all : before ≡ prepend_known bytes now
  pub at_end : IsAtEnd now

-- these bytes were read: all that the input had, or as many as are read at most
pub record IsRead (most : ℕ) (before now : Option (List ℕ)) (bytes : List ℕ) : Type 0 where
  pub taken : before ≡ prepend_known bytes now
  pub no_more : length bytes ≤ most
  pub stopped : IsAtEnd now ⊎ (length bytes ≡ most)

-- by a command of this limit: to its end, and these bytes are all that it had; or not at all
abbrev pub IsReadBy : Option ℕ → Option (List ℕ) → Option (List ℕ) → List ℕ → Type 0
IsReadBy (Some limit) before now bytes = IsReadToEnd before now bytes
IsReadBy None before now bytes = (now ≡ before) × (bytes ≡ [])

-- the input tells that these are its bytes; where none is read, they may be any
abbrev pub HasInput : Option ℕ → Option (List ℕ) → List ℕ → Type 0
HasInput (Some limit) left bytes = left ≡ Some bytes
HasInput None left bytes = Unit {0}

-- ---- what is owed

-- the bytes of the whole input break no rule of the command, and this status and this text are what it makes of them
pub record IsDone (terms : Terms) (before now : Option (List ℕ)) (given : GivenBack) (status : ℕ)
    (text : List ℕ) : Type 0 where
  pub bytes : List ℕ
  pub read : IsReadBy terms.limit before now bytes
  pub done : terms.Done bytes given status text

-- the bytes that were read deserve a refusal, and the text is its line
pub record IsRefused (terms : Terms) (before now : Option (List ℕ)) (text : List ℕ) : Type 0 where
  pub bytes : List ℕ
  pub read : IsRead (most_bytes terms) before now bytes
  pub refused : terms.Refuses bytes text

-- What a command answers to an input.
abbrev pub AnswersInput : Terms → Option (List ℕ) → Option (List ℕ) → GivenBack → ℕ → List ℕ → Type 0
AnswersInput terms before now given status text =
    IsDone terms before now given status text ⊎ ((status ≡ refused_status) × IsRefused terms before now text)

-- what the words owe that are a command: what it makes of the input, or the line of a refusal
abbrev pub OwesDone : List (String Global) → Option (List ℕ) → Option (List ℕ) → GivenBack → ℕ → List ℕ → Type 0
OwesDone words before now given status text =
    (command : Command) × AreCommand words command × IsDone (terms_of command) before now given status text

abbrev pub OwesRefusal : List (String Global) → Option (List ℕ) → Option (List ℕ) → List ℕ → Type 0
OwesRefusal words before now text =
    (command : Command) × AreCommand words command × IsRefused (terms_of command) before now text

-- and those that are none: nothing was read, and the text is the usage line
pub record OwesUsage (words : List (String Global)) (before now : Option (List ℕ)) (text : List ℕ) : Type 0 where
  pub words_are : AreNoCommand words
  pub unread : now ≡ before
  pub usage : text ≡ usage_text

-- A status and a text that go together for these words, this input and these links and pairs.
abbrev pub OwesWords : List (String Global) → Option (List ℕ) → Option (List ℕ) → GivenBack → ℕ → List ℕ → Type 0
OwesWords words before now given status text =
    OwesDone words before now given status text
    ⊎ ((status ≡ refused_status) × OwesRefusal words before now text)
    ⊎ ((status ≡ usage_status) × OwesUsage words before now text)

-- a text that is owed for these words, this input and these links and pairs
abbrev pub OwesText : List (String Global) → Option (List ℕ) → Option (List ℕ) → GivenBack → List ℕ → Type 0
OwesText words before now given text = (status : ℕ) × OwesWords words before now given status text

-- ---- the links

-- a command uses boards for the bytes that it read, and the specs and the links are those of the first of them, in
-- order
pub record UsedFrom (terms : Terms) (before now : Option (List ℕ)) (specs : List LinkSpec) (links : List LinkReport)
    : Type 0 where
  pub bytes : List ℕ
  pub read : IsReadBy terms.limit before now bytes
  pub uses : terms.Uses bytes specs links

-- so does the command that the words are
abbrev pub UsedSome : List (String Global) → Option (List ℕ) → Option (List ℕ) → List LinkSpec → List LinkReport
    → Type 0
UsedSome words before now specs links =
    (command : Command) × AreCommand words command × UsedFrom (terms_of command) before now specs links

-- and it is one that lets clients in
abbrev pub ServedSome : List (String Global) → Option (List ℕ) → Option (List ℕ) → List LinkSpec → List LinkReport
    → Type 0
ServedSome words before now specs links =
    (command : Command) × AreCommand words command × ((terms_of command).lets_in ≡ true)
    × UsedFrom (terms_of command) before now specs links

-- ---- the output

-- all of this text went behind what was written
abbrev pub Wrote : Option (List ℕ) → Option (List ℕ) → List ℕ → Type 0
Wrote old new text = new ≡ append_known old text

-- a text that is owed was written, and nothing else
abbrev pub WroteOwed : (List ℕ → Type 0) → Option (List ℕ) → Option (List ℕ) → Type 0
WroteOwed owed old new = (text : List ℕ) × owed text × Wrote old new text

-- a proper part of a text that is owed was written, from its front
abbrev pub WroteOwedPart : (List ℕ → Type 0) → Option (List ℕ) → Option (List ℕ) → Type 0
WroteOwedPart owed old new = (text : List ℕ) × owed text × AppendsPart old new text
