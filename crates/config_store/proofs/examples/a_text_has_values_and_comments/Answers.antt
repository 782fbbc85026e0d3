use Rattle.std.proofs.Common.{refl}
use Rattle.std.specs.Fmt.{digits}
use Rattle.config_store.proofs.examples.a_text_has_values_and_comments.Goals as goal

pub returns-clause-value : goal.returns-clause-value
unfolding digits
returns-clause-value c = refl

pub returns-clause-comment : goal.returns-clause-comment
unfolding digits
returns-clause-comment c = refl

pub returns-clause-late : goal.returns-clause-late
unfolding digits
returns-clause-late c = refl
