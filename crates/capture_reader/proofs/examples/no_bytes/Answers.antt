use Rattle.capture_reader.proofs.ExampleLemmas.{empty_proves, no_bytes}
use Rattle.capture_reader.proofs.examples.no_bytes.Goals as goal

pub returns-clause-proved : goal.returns-clause-proved
returns-clause-proved c = empty_proves

pub returns-clause-description : goal.returns-clause-description
returns-clause-description c = no_bytes
