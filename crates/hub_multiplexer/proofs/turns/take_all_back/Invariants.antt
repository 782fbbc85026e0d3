use Rattle.std.proofs.Common.{◌≡◌, ◌≤◌, ◌+◌, ◌++◌, map, reverse, vec_len, vec_capacity}
use Rattle.hub_multiplexer.specs.Openings.{AreFresh, openings_of}
use Rattle.hub_multiplexer.proofs.turns.take_all_back.Given as goal

abbrev pub invariant-loop-turn : goal.invariant-loop-turn
invariant-loop-turn g l =
    AreFresh l.turns.items l.passes.items
    × (map g.V.Chronicle.entries l.values.items ++ reverse (openings_of l.passes.items) ≡ map g.V.Chronicle.entries
    l.fn.values.items ++ reverse (openings_of l.fn.passes.items))
    × (vec_len l.values + vec_len l.turns ≤ vec_capacity l.values)

abbrev pub decreases-loop-turn : goal.decreases-loop-turn
decreases-loop-turn g l = vec_len l.turns
