use Rattle.std.proofs.Common.{◌≡◌, ◌≤◌, ◌+◌, ◌++◌, List, map, vec_len, vec_capacity}
use Rattle.std.specs.List.{AllByRecursion}
use Rattle.turn_pass.specs.Pass.{Knowledge}
use Rattle.hub_multiplexer.specs.Ends.{AreEnded, IsLast}
use Rattle.hub_multiplexer.specs.Seats.{knows_of, turns_of}
use Rattle.hub_multiplexer.proofs.turns.close_all.Given as goal

-- the boards before those that are left are done
abbrev pub invariant-loop-turns : goal.invariant-loop-turns
invariant-loop-turns g l =
    (turns_of l.passes.items ≡ l.turns.items)
    × AllByRecursion IsLast l.passes.items
    × (vec_len l.values + vec_len l.turns ≤ vec_capacity l.values)
    × ((done : List Knowledge) × (knows_of l.fn.passes.items ≡ done ++ knows_of l.passes.items) × AreEnded done
    (map g.V.Chronicle.entries l.values.items))

abbrev pub decreases-loop-turns : goal.decreases-loop-turns
decreases-loop-turns g l = vec_len l.turns
