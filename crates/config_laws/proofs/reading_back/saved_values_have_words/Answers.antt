use Rattle.config_laws.proofs.SavedWords.{saved_words}
use Rattle.config_laws.proofs.Whole.{saved_for}
use Rattle.config_laws.proofs.reading_back.saved_values_have_words.Goals as goal

pub returns-clause-values : goal.returns-clause-values
returns-clause-values c = saved_words

pub returns-clause-each : goal.returns-clause-each
returns-clause-each c = saved_for
