use Rattle.std.proofs.Common.{◌≡◌, take}
use Rattle.lane_record.specs.Dispatches.{plans_from}
use Rattle.session_run.specs.Clients.{with_items}
use Rattle.session_run.proofs.planning.plan_bodies.Given as goal

-- the bodies so far
abbrev pub invariant-loop-body : goal.invariant-loop-body
invariant-loop-body g l = l.lane ≡ with_items l.initial.lane (plans_from l.client 0 (take l.body-index l.bodies))
