use Rattle.std.proofs.Common.{◌≡◌, ◌++◌, drop, string_bytes}
use Rattle.transcript.specs.Text as spec
use Rattle.transcript.proofs.text.push_words.Given as goal

-- the text so far, and the words that are left
abbrev pub invariant-loop-word : goal.invariant-loop-word
invariant-loop-word l =
    string_bytes l.text ++ spec.words_text (drop l.word-index l.words) ≡ string_bytes l.fn.text
    ++ spec.words_text l.words
