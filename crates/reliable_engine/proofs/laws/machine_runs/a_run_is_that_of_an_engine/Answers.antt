use Rattle.reliable_engine.proofs.MachineRuns.{run_is}
use Rattle.reliable_engine.proofs.laws.machine_runs.a_run_is_that_of_an_engine.Goals as goal

pub returns : goal.returns
returns c = run_is
