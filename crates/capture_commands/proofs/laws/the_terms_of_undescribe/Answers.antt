use Rattle.std.proofs.Common.{inl, refl, subst, ◌<◌, length}
use Rattle.capture_commands.specs.Texts.{DeservesAsDescription}
use Rattle.capture_commands.specs.declared.refusal.TextRefusal.TheVariants.{LongDescription}
use Rattle.capture_commands.proofs.OneAnswer.{description_unrefused, one_as_description, one_line, same_limit}
use Rattle.capture_commands.proofs.laws.the_terms_of_undescribe.Goals as goal

pub returns : goal.returns
returns c = record {
  told = λ bytes given status text is. inl is.told;
  one_line = one_line DeservesAsDescription one_as_description;
  right_apart = λ bytes line right. description_unrefused bytes line right.0 right.1;
  done_apart = λ bytes line given status text is. description_unrefused bytes line is.capture is.read;
  uses_apart = λ bytes line specs links used refused. used;
  long = λ limit bytes is more. record {
    refusal = LongDescription;
    deserved = subst (λ n. n < length bytes) (same_limit limit is) more;
    spelled = refl;
  };
  unrefused = λ none. absurd cc;
  unlinked = λ none bytes specs links used. used;
}
