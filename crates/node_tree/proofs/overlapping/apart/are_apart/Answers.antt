use Rattle.std.proofs.Common.{ap, arith}
use Rattle.std.specs.List.{sum_by}
use Rattle.std.proofs.lemmas.List.Sorted.{sum_by-IsPermutation}
use Rattle.node_tree.specs.Spans.{takes_at}
use Rattle.node_tree.proofs.overlapping.apart.are_apart.Goals as goal

pub returns : goal.returns
returns c = λ holds address.
    let most = c.follow_one_another.ensures holds address in
    let read = ap (sum_by (takes_at address)) c.deref.ensures.value in
    let moved =
    sum_by-IsPermutation (takes_at address) c.in_ok-spans.spans.items c.sort_unstable.new.self.items
    c.sort_unstable.ensures.permutation in
    let spans = c.in_ok-spans.ensures address in
    omega (arith, most, read, moved, spans)
