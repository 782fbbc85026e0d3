use Rattle.std.proofs.Common.{◌≤◌, vec_len, vec_capacity, ◌≡◌, length}
use Rattle.std.specs.Vec.Iter.{into_iter_items}
use Rattle.session_run.proofs.PartLists.{PartsSoFar}
use Rattle.session_run.proofs.parts.parts_on_next.Given as goal

-- the clients so far, and room for all
abbrev pub invariant-loop-client : goal.invariant-loop-client
invariant-loop-client l = (PartsSoFar l.client-index l.fn.planned (into_iter_items l.plans) l.initial.clients l.clients
    l.parts.items)
    × (vec_len l.parts ≡ l.client-index)
    × (length l.initial.clients ≤ vec_capacity l.parts)
