use Rattle.std.proofs.Common.{◌≡◌, take, ◌≤◌, vec_len, vec_capacity, length}
use Rattle.session_run.specs.Plans.{plans_over}
use Rattle.session_run.proofs.Plans.{dispatch_counts}
use Rattle.session_run.proofs.asking.client_plans.Given as goal

-- the clients so far, and room for all
abbrev pub invariant-loop-client : goal.invariant-loop-client
invariant-loop-client l = (l.plans.items ≡ plans_over l.boards 0 (dispatch_counts (take l.client l.scripts)))
    × (vec_len l.plans ≡ l.client)
    × (length l.scripts ≤ vec_capacity l.plans)
