-- Scripts that clients can run. Profile.
use Rattle.std.specs.Prelude.{◌<◌, ◌^◌, List, length}
use Rattle.std.specs.List.{AllByRecursion}
use Rattle.script_steps.specs.declared.operation.Step.{Step}
use Rattle.script_steps.specs.Executable.{AreExecutable}
use Rattle.script_steps.specs.Packing.{AreWithinLimits, CanBePacked, HaveFewPieces}

-- Of the steps of all clients: there are few clients, what each asks can be packed and executed, and it is within the
-- limits of lanes.
pub record CanBeRun (scripts : List (List Step)) : Type 0 where
  pub few_clients : length scripts < 2 ^ 32
  pub packed : AllByRecursion (AllByRecursion CanBePacked) scripts
  pub few : AllByRecursion HaveFewPieces scripts
  pub executable : AllByRecursion AreExecutable scripts
  pub limits : AreWithinLimits scripts
