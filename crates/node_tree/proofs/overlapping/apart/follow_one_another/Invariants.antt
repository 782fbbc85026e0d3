use Rattle.std.proofs.Common.{◌≡◌, ◌≤◌, ℕ, take}
use Rattle.std.specs.List.{sum_by}
use Rattle.node_tree.specs.Spans.{takes_at}
use Rattle.node_tree.proofs.overlapping.apart.follow_one_another.Given as goal

abbrev pub invariant-loop-first : goal.invariant-loop-first
invariant-loop-first l = record {
  once : (address : ℕ) → sum_by (takes_at address) (take l.first-index l.spans) ≤ 1;
  past : (address : ℕ) → l.last_end ≤ address → sum_by (takes_at address) (take l.first-index l.spans) ≡ 0;
}
