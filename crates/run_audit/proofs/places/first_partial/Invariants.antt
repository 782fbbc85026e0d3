use Rattle.std.proofs.Common.{map}
use Rattle.run_audit.specs.Steps.{asking}
use Rattle.run_audit.proofs.PartialLines.{NonePartial}
use Rattle.run_audit.proofs.places.first_partial.Given as goal

-- no line so far
abbrev pub invariant-loop-ask : goal.invariant-loop-ask
invariant-loop-ask l = NonePartial l.plans (map asking l.asked) l.ask-index
