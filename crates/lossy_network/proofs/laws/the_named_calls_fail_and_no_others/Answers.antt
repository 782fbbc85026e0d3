use Rattle.lossy_network.proofs.Numbers.{faults_are_failures, named_calls_fail}
use Rattle.lossy_network.proofs.laws.the_named_calls_fail_and_no_others.Goals as goal

pub returns-clause-named : goal.returns-clause-named
returns-clause-named c = named_calls_fail

pub returns-clause-counted : goal.returns-clause-counted
returns-clause-counted c = faults_are_failures
