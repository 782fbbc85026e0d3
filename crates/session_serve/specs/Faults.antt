-- Why nothing was reported, by what a rack answers, and which of these faults come of boards and connections. Profile.
use Rattle.links.specs.declared.rack.RackFault.{RackFault}
use Rattle.links.specs.declared.rack.RackFault.TheVariants as rack
use Rattle.session_serve.specs.declared.report.ServeFault.{ServeFault}
use Rattle.session_serve.specs.declared.report.ServeFault.TheVariants as serve

abbrev pub serve_fault : RackFault → ServeFault
serve_fault rack.Failed = serve.Rack
serve_fault rack.NoMemory = serve.NoMemory

-- faults that come of boards and connections, so of an input that breaks no rule
abbrev pub IsServeFailure : ServeFault → Type 0
IsServeFailure serve.Rack = Unit {0}
IsServeFailure serve.Door = Unit {0}
IsServeFailure serve.NoMemory = ⊥
