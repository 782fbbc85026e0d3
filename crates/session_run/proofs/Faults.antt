-- Faults of a session, told apart.
use Rattle.std.proofs.Common.{◌≡◌}
use Rattle.session_run.specs.declared.session.RunFault.{RunFault}
use Rattle.session_run.specs.declared.session.RunFault.TheVariants.{NoMemory, Rack}

pub no_memory_is_no_rack : (fault : RunFault) → fault ≡ NoMemory → fault ≡ Rack → ⊥
no_memory_is_no_rack fault is rack = cc
