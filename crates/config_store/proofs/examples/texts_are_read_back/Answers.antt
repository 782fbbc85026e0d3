use Rattle.std.proofs.Common.{refl}
use Rattle.toml.proofs.OnLiterals.{toml_on_literals}
use Rattle.config_store.proofs.examples.texts_are_read_back.Goals as goal

pub returns-clause-value : goal.returns-clause-value
unfolding toml_on_literals
returns-clause-value c = refl

pub returns-clause-comment : goal.returns-clause-comment
unfolding toml_on_literals
returns-clause-comment c = refl
