-- The words of a command, as they are written. Profile.
use Rattle.std.specs.Prelude.{◌≡◌, ◌≢◌, ℕ, List, [], ◌∷◌, map, true, is_some, codes, String, string_bytes}
use Rattle.std.specs.declared.alloc.Global.{Global}
use Rattle.command_words.specs.Commands.{alone as all_alone, command_of_one}

-- a command that is a name alone, or another with the words behind its name
pub data Form : Type 0 where
  alone : List ℕ → Form
  check : List ℕ → Form
  serve : List ℕ → List ℕ → Form
  load : List ℕ → Form

abbrev pub words_of : Form → List (List ℕ)
words_of (alone name) = name ∷ []
words_of (check table) = codes "check" ∷ table ∷ []
words_of (serve port count) = codes "serve" ∷ port ∷ count ∷ []
words_of (load count) = codes "load" ∷ count ∷ []

-- the names of the commands that are a name alone
abbrev pub names_alone : List (List ℕ)
names_alone = map (λ command. command.0) all_alone

-- the word is one of them
abbrev pub IsAlone : List ℕ → Type 0
IsAlone word = is_some (command_of_one word) ≡ true

-- a form that is a name alone has one of these names
abbrev pub IsNamed : Form → Type 0
IsNamed (alone name) = IsAlone name
IsNamed (check table) = Unit {0}
IsNamed (serve port count) = Unit {0}
IsNamed (load count) = Unit {0}

-- the word does not begin with a hyphen
abbrev pub IsPlain : List ℕ → Type 0
IsPlain [] = Unit {0}
IsPlain (byte ∷ bytes) = byte ≢ 45

-- no word does
abbrev pub ArePlain : List (List ℕ) → Type 0
ArePlain [] = Unit {0}
ArePlain (word ∷ words) = IsPlain word × ArePlain words

-- the bytes of words
abbrev pub texts : List (String Global) → List (List ℕ)
texts = map string_bytes
