use Rattle.std.proofs.Common.{refl, arith}
use Rattle.std.specs.Fmt.{digits}
use Rattle.capture_commands.specs.declared.refusal.TextRefusal.TheVariants.{NotDescription}
use Rattle.capture_commands.proofs.ReadLemmas.{no_second_place}
use Rattle.capture_commands.proofs.examples.a_description_that_proves_too_much.Goals as goal

pub returns : goal.returns
unfolding digits
returns c = record {
  refusal = NotDescription;
  deserved = (
    omega arith,
    no_second_place c.one_word_is_read.ensures.proved c.one_word_is_read.ensures.description,
  );
  spelled = refl;
}
