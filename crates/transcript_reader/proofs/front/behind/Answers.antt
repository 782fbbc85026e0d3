use Rattle.std.proofs.lemmas.Bool.Decides.{Decides-eqb}
use Rattle.std.proofs.lemmas.Slice.Eq.{strip_prefix_is}
use Rattle.ipb_base.proofs.FrontWords.{finds_behind}
use Rattle.transcript_reader.proofs.front.behind.Goals as goal

pub returns : goal.returns
returns c =
    finds_behind c.args.word.now c.args.text.now c.strip_prefix.result
    (strip_prefix_is Decides-eqb c.args.text.now c.args.word.now c.strip_prefix.result c.strip_prefix.ensures.cases)
