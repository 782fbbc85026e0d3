use Rattle.std.proofs.Common.{◌≡◌, map, ◌≤◌, vec_len, vec_capacity}
use Rattle.std.specs.List.{range_with_len}
use Rattle.session_run.specs.Plans.{dispatch_over}
use Rattle.session_run.proofs.asking.plan_over.Given as goal

-- the dispatches so far, and room for all
abbrev pub invariant-loop-dispatch : goal.invariant-loop-dispatch
invariant-loop-dispatch l = (l.all.items ≡ map (dispatch_over l.boards l.client) (range_with_len 0 l.dispatch))
    × (vec_len l.all ≡ l.dispatch)
    × (l.many ≤ vec_capacity l.all)
