use Rattle.std.proofs.Common.{◌≡◌}
use Rattle.hub_multiplexer.proofs.Looks.{HasLooked}
use Rattle.hub_multiplexer.proofs.waiting.perform.Given as goal

-- the pass only looked so far
abbrev pub invariant-loop : goal.invariant-loop
invariant-loop g l =
    ((goal.iterator-loop g).can_next l.iterator' × (goal.iterator-loop g).is_finite l.iterator')
    × (l.pass ≡ record l.fn.pass { knows = l.pass.knows })
    × (l.pass.knows.number ≡ l.fn.client)
    × HasLooked g.V.AtHub.manner l.fn.pass.knows l.pass.knows
