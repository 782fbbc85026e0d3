use Rattle.std.proofs.Common.{◌≡◌, drop}
use Rattle.serve_command.specs.Text as spec
use Rattle.serve_command.proofs.text.all_closed.Given as goal

-- the connections so far ended well
abbrev pub invariant-loop-served : goal.invariant-loop-served
invariant-loop-served l = spec.all_closed (drop l.served-index l.connections) ≡ spec.all_closed l.connections
