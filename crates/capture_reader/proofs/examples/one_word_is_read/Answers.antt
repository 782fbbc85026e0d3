use Rattle.capture_reader.proofs.ExampleLemmas.{read_proves, read_described}
use Rattle.capture_reader.proofs.examples.one_word_is_read.Goals as goal

pub returns-clause-proved : goal.returns-clause-proved
returns-clause-proved c = read_proves

pub returns-clause-description : goal.returns-clause-description
returns-clause-description c = read_described
