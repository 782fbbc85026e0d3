use Rattle.hub_lane.proofs.GreetingRounds.{IsAsking}
use Rattle.hub_lane.proofs.greeting.ask_for_status.Given as goal

-- no round so far had a status
abbrev pub invariant-loop-round : goal.invariant-loop-round
invariant-loop-round g l = IsAsking g.L.Link l.settings l.round l.fn.link l.link
