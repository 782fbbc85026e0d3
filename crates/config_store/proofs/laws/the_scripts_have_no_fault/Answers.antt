use Rattle.config_store.proofs.FewValues.{applying_in_order}
use Rattle.config_store.proofs.KeptLines.{saving_no_fault}
use Rattle.config_store.proofs.laws.the_scripts_have_no_fault.Goals as goal

pub returns-clause-save : goal.returns-clause-save
returns-clause-save c boards indexes own words none = saving_no_fault boards indexes own words none

pub returns-clause-apply : goal.returns-clause-apply
returns-clause-apply c boards indexes es own words none order values =
    applying_in_order boards indexes own words es order none values
