use Rattle.std.proofs.Common.{map, ◌≤◌, vec_len, vec_capacity, ◌≡◌, ◌+◌, length}
use Rattle.std.specs.Vec.Iter.{into_iter_items}
use Rattle.client_threads.specs.declared.result.ClientResult.{ClientResult}
use Rattle.session_run.proofs.PartLists.{BoardsSoFar}
use Rattle.session_run.proofs.parts.client_parts.Given as goal

-- the boards so far, and those that are left, and room for these
abbrev pub invariant-loop-planned : goal.invariant-loop-planned
invariant-loop-planned l = (BoardsSoFar l.fn.boards.items (into_iter_items l.planned-iterator)
    (map (λ (r : ClientResult). r.lanes) l.fn.results.items) l.clients.items l.parts.items)
    × (vec_len l.parts + length (into_iter_items l.planned-iterator) ≡ length l.fn.boards.items)
    × (length l.fn.boards.items ≤ vec_capacity l.parts)
