use Rattle.std.proofs.Common.{◌≡◌, ◌++◌, map, ◌≤◌, vec_len, vec_capacity, ◌+◌, length}
use Rattle.std.specs.Vec.Iter.{into_iter_items}
use Rattle.client_threads.specs.declared.result.ClientResult.{ClientResult}
use Rattle.session_run.proofs.parts.all_lanes.Given as goal

-- the clients so far, and those that are left, and room for these
abbrev pub invariant-loop-client : goal.invariant-loop-client
invariant-loop-client l = (l.rests.items ++ map (λ (r : ClientResult). r.lanes) (into_iter_items l.client-iterator)
    ≡ map (λ (r : ClientResult). r.lanes) l.fn.results.items)
    × (vec_len l.rests + length (into_iter_items l.client-iterator) ≡ length l.fn.results.items)
    × (length l.fn.results.items ≤ vec_capacity l.rests)
