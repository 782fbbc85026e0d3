use Rattle.hub_lane.proofs.Listening.{IsListening}
use Rattle.hub_lane.proofs.greeting.listen.Given as goal

-- only others came so far
abbrev pub invariant-loop-other : goal.invariant-loop-other
invariant-loop-other g l = IsListening g.L.Link l.other l.fn.link l.link
