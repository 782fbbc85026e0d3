use Rattle.std.proofs.Common.{◌++◌, List, ℕ, ap, sym, ◌∙◌}
use Rattle.ipb_base.specs.Fronts.{all_of}
use Rattle.capture_reader.specs.Parsing.{word_at}
use Rattle.ipb_base.proofs.Fronts.{all_step, one_more}
use Rattle.capture_reader.proofs.WordLines.{words_shorten}
use Rattle.capture_reader.proofs.parsing.read_words.Goals as goal

pub words-smaller : goal.words-smaller
words-smaller c = words_shorten c.words.rest.now c.in-Some.more.now c.in-Some.word c.in-Some.ensures

pub words-preserved : goal.words-preserved
words-preserved c = record {
  words =
      ap (λ (words : List ℕ). words ++ (all_of word_at c.in-Some.more.now).0) c.in_ok-push.ensures.items
      ∙ one_more word_at words_shorten c.words.out.items c.words.rest.now c.in-Some.more.now c.in-Some.word
      c.in-Some.ensures
      ∙ c.words.invariant.words;
  behind =
      ap (λ (read : List ℕ × List ℕ). read.1)
      (sym (all_step word_at words_shorten c.words.rest.now c.in-Some.more.now c.in-Some.word c.in-Some.ensures))
      ∙ c.words.invariant.behind;
}
