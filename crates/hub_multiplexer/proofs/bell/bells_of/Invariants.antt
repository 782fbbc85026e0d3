use Rattle.std.proofs.Common.{◌≡◌, ◌≤◌, map, vec_len, vec_capacity}
use Rattle.hub_multiplexer.proofs.bell.bells_of.Given as goal

abbrev pub invariant-loop-i : goal.invariant-loop-i
invariant-loop-i g l =
    (map g.V.Chronicle.entries l.values.items ≡ map g.V.Chronicle.entries l.fn.values.items)
    × (vec_len l.values ≡ vec_len l.fn.values)
    × (vec_len l.bells ≡ l.i)
    × (vec_len l.fn.values ≤ vec_capacity l.bells)
