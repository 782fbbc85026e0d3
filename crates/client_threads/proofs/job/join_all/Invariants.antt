use Rattle.std.proofs.Common.{◌≡◌, ◌++◌, length, vec_capacity}
use Rattle.client_threads.specs.Jobs.{AreJoined}
use Rattle.client_threads.proofs.job.join_all.Given as goal

-- those that the loop went over are taken in
abbrev pub invariant-loop-job : goal.invariant-loop-job
invariant-loop-job g l =
    (l.yielded ++ l.job-iterator.rest.items ≡ l.fn.jobs.items)
    × AreJoined l.hub.turns l.fn.master l.master l.yielded l.results.items l.all
    × (length l.results.items ≡ length l.yielded)
    × (vec_capacity l.results ≡ vec_capacity l.fn.results)
