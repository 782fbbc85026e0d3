use Rattle.std.proofs.Common.{◌≡◌, ◌++◌, take}
use Rattle.capture_reader.specs.Rows as spec
use Rattle.capture_reader.proofs.texts.push_words.Given as goal

-- the text of the words so far
abbrev pub invariant-loop-word : goal.invariant-loop-word
invariant-loop-word l =
    l.out.items ≡ l.fn.out.items ++ spec.words_text (take l.word-index l.words)
