use Rattle.std.proofs.Common.{◌≡◌, ◌++◌, map, take, drop, vec_len, vec_capacity}
use Rattle.hub_multiplexer.specs.Seats.{after_split, split_off}
use Rattle.hub_multiplexer.proofs.passes.split_all.Given as goal

abbrev pub invariant-loop-i : goal.invariant-loop-i
invariant-loop-i g l =
    (l.firsts.items ≡ map after_split (take l.i l.fn.firsts.items) ++ drop l.i l.fn.firsts.items)
    × (l.made.items ≡ map split_off (take l.i l.fn.firsts.items))
    × (vec_len l.made ≡ l.i)
    × (vec_capacity l.made ≡ vec_capacity l.fn.made)
