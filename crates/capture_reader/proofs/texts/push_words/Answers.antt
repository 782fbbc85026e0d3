use Rattle.std.proofs.Common.{◌++◌, codes}
use Rattle.std.proofs.lemmas.List.{take_all}
use Rattle.capture_reader.specs.Rows.{word_text}
use Rattle.capture_reader.proofs.TextsSoFar.{text_more}
use Rattle.capture_reader.proofs.texts.push_words.Goals as goal

pub loop-word-preserved : goal.loop-word-preserved
loop-word-preserved c =
    rw (c.in_ok-push_word.ensures, c.loop-word.invariant)
    (text_more (λ word. codes " " ++ word_text word) c.args.words.now c.loop-word.word-index 0 c.args.out.now.items
    c.loop-word-test.true)

pub returns : goal.returns
returns c = rw (take_all c.loop-word.word-index c.args.words.now c.loop-word-test.false) at c.loop-word.invariant
