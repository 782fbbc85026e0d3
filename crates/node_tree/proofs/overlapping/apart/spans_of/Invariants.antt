use Rattle.std.proofs.Common.{◌≡◌, ℕ, take}
use Rattle.std.specs.List.{sum_by}
use Rattle.node_tree.specs.Spans.{takes_at, register_takes}
use Rattle.node_tree.proofs.overlapping.apart.spans_of.Given as goal

abbrev pub invariant-loop-entry : goal.invariant-loop-entry
invariant-loop-entry l =
    (address : ℕ)
    → sum_by (takes_at address) l.spans.items
    ≡ sum_by (λ e. register_takes address e.1) (take l.entry-index l.entries)
