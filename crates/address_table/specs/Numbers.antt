-- Numbers of 32 bits as a document writes them: an integer, or a text of decimal or hexadecimal digits. Profile.
use Rattle.std.specs.Prelude.{ℕ, ℤ, pos, negsuc, Option, None}
use Rattle.toml.specs.Data.{Data, integer, string}
use Rattle.ipb_base.specs.Digits.{number_in_text, word}

abbrev pub number_of_integer : ℤ → Option ℕ
number_of_integer (pos n) = word n
number_of_integer (negsuc n) = None

-- the number that a value of a document is, in either form
abbrev pub number : Data → Option ℕ
number (integer z) = number_of_integer z
number (string text) = number_in_text text
number _ = None
