use Rattle.std.proofs.Common.{◌≡◌, ◌+◌, ◌≤◌, ◌++◌, length, drop}
use Rattle.std.specs.VecDeque.{deque_len, deque_capacity}
use Rattle.lossy_network.specs.Traffic.{due_at}
use Rattle.lossy_network.proofs.under_way.queue_due.Given as goal

abbrev pub invariant-loop-late : goal.invariant-loop-late
invariant-loop-late l =
    (l.queue.items ++ due_at l.place (drop l.late-index l.delayed) ≡ l.fn.queue.items ++ due_at l.place l.delayed)
    × (deque_len l.queue + length l.delayed ≤ deque_capacity l.queue + l.late-index)
