use Rattle.std.proofs.Common.{◌≤◌, ◌+◌, map, vec_len, vec_capacity}
use Rattle.hub_multiplexer.specs.Openings.{IsOpening}
use Rattle.hub_multiplexer.proofs.turns.open_from_last.Given as goal

abbrev pub invariant-loop-value : goal.invariant-loop-value
invariant-loop-value g l =
    IsOpening (map g.V.Chronicle.entries l.fn.values.items) (map g.V.Chronicle.entries l.values.items) l.turns.items
    l.passes.items
    × (vec_len l.values + vec_len l.turns ≤ vec_capacity l.values)
    × (vec_len l.values + vec_len l.turns ≤ vec_capacity l.turns)
    × (vec_len l.values + vec_len l.passes ≤ vec_capacity l.passes)

abbrev pub decreases-loop-value : goal.decreases-loop-value
decreases-loop-value g l = vec_len l.values
