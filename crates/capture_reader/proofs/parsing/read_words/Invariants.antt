use Rattle.std.proofs.Common.{◌≡◌, ◌++◌, length}
use Rattle.ipb_base.specs.Fronts.{all_of}
use Rattle.capture_reader.specs.Parsing.{word_at}
use Rattle.capture_reader.proofs.parsing.read_words.Given as goal

-- the words so far, and those of the text that is left
abbrev pub invariant-words : goal.invariant-words
invariant-words l = record {
  words : l.out.items ++ (all_of word_at l.rest).0 ≡ l.fn.out.items ++ (all_of word_at l.text).0;
  behind : (all_of word_at l.rest).1 ≡ (all_of word_at l.text).1;
}

abbrev pub decreases-words : goal.decreases-words
decreases-words l = length l.rest
