use Rattle.std.proofs.Common.{◌++◌, List, ℕ, ap, sym, ◌∙◌}
use Rattle.ipb_base.specs.Word.{IsWord}
use Rattle.ipb_base.specs.Fronts.{all_of}
use Rattle.transcript_reader.specs.Reading.{next_word_at}
use Rattle.ipb_base.proofs.Fronts.{all_step, one_more}
use Rattle.transcript_reader.proofs.Lists.{all_push}
use Rattle.transcript_reader.proofs.Texts.{words_shorten}
use Rattle.transcript_reader.proofs.showing.read_words.Goals as goal

pub words-smaller : goal.words-smaller
words-smaller c = words_shorten c.words.rest.now c.in-Some.more.now c.in-Some.word c.in-Some.ensures.read

pub words-preserved : goal.words-preserved
words-preserved c = record {
  words =
      ap (λ (words : List ℕ). words ++ (all_of next_word_at c.in-Some.more.now).0) c.in_ok-push.ensures.items
      ∙ one_more next_word_at words_shorten c.words.out.items c.words.rest.now c.in-Some.more.now c.in-Some.word
      c.in-Some.ensures.read
      ∙ c.words.invariant.words;
  printed =
      λ before. rw c.in_ok-push.ensures.items
      (all_push IsWord c.words.out.items c.in-Some.word (c.words.invariant.printed before) c.in-Some.ensures.printed);
  behind =
      ap (λ (read : List ℕ × List ℕ). read.1)
      (sym (all_step next_word_at words_shorten c.words.rest.now c.in-Some.more.now c.in-Some.word c.in-Some.ensures.read))
      ∙ c.words.invariant.behind;
}
