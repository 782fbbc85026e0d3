-- Why a session has no runs, by what its rack answers, and which of these faults come of boards. Profile.
use Rattle.links.specs.declared.rack.RackFault.{RackFault}
use Rattle.links.specs.declared.rack.RackFault.TheVariants as rack
use Rattle.session_run.specs.declared.session.RunFault.{RunFault}
use Rattle.session_run.specs.declared.session.RunFault.TheVariants as run

abbrev pub run_fault : RackFault → RunFault
run_fault rack.Failed = run.Rack
run_fault rack.NoMemory = run.NoMemory

-- faults that come of boards, so of an input that breaks no rule
abbrev pub IsRunFailure : RunFault → Type 0
IsRunFailure run.Rack = Unit {0}
IsRunFailure run.NoMemory = ⊥
