use Rattle.std.proofs.Common.{◌≡◌, ◌++◌, take, drop, length}
use Rattle.hub_multiplexer.specs.Seats.{after_join}
use Rattle.hub_multiplexer.proofs.passes.join_all.Given as goal

-- the boards from the number of passes left on are done
abbrev pub invariant-loop-other : goal.invariant-loop-other
invariant-loop-other g l =
    (l.others.items ≡ take (length l.others.items) l.fn.others.items)
    × (l.firsts.items ≡ take (length l.others.items) l.fn.firsts.items ++ after_join
    (drop (length l.others.items) l.fn.firsts.items) (drop (length l.others.items) l.fn.others.items))

abbrev pub decreases-loop-other : goal.decreases-loop-other
decreases-loop-other g l = length l.others.items
