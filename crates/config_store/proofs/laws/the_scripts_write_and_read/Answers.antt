use Rattle.config_store.proofs.Steps.{applied_steps, reads_of}
use Rattle.config_store.proofs.laws.the_scripts_write_and_read.Goals as goal

pub returns-clause-save : goal.returns-clause-save
returns-clause-save c boards indexes own words = reads_of boards indexes own words 1

pub returns-clause-apply : goal.returns-clause-apply
returns-clause-apply c boards indexes es own words none values = applied_steps boards indexes own words es none values
