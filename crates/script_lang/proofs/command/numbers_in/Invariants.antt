use denote.Shadow.{shadow}
use denote.Text.{Utf8}
use Rattle.std.proofs.Common.{◌≡◌, ◌++◌, length}
use Rattle.std.specs.Option.{option_map}
use Rattle.script_lang.specs.Lines.{numbers_of, words}
use Rattle.script_lang.proofs.command.numbers_in.Given as goal

-- the numbers so far, and those of the words that are left
abbrev pub invariant-word : goal.invariant-word
invariant-word l = record {
  text : shadow (Utf8 l.rest);
  numbers : option_map (λ ns. l.numbers.items ++ ns) (numbers_of (words l.rest)) ≡ numbers_of (words l.text);
}

abbrev pub decreases-word : goal.decreases-word
decreases-word l = length l.rest
