use Rattle.std.proofs.Common.{◌≡◌, ◌++◌, drop}
use Rattle.run_audit.specs.Replaying as spec
use Rattle.run_audit.proofs.replaying.PlaceRow.new.Given as goal

-- the bodies so far, and those that are left
abbrev pub invariant-loop-body : goal.invariant-loop-body
invariant-loop-body l = l.places.items ++ spec.no_places (drop l._body-index l.bodies) ≡ spec.no_places l.bodies
