use Rattle.std.proofs.Common.{◌≡◌, ◌++◌, ◌+◌, ◌<◌, take, drop, length, slice_index, option_to_list, ap, ◌∙◌}
use Rattle.std.proofs.Common.{append_assoc, sym, arith}
use Rattle.std.proofs.lemmas.Grind.{common_steps}
use Rattle.std.proofs.lemmas.List.{get_or_read}
use Rattle.node_tree.specs.Named.{named_entries}
use Rattle.node_tree.specs.Overlaps.{overlapping}
use Rattle.node_tree.specs.OverlapSearch.{pair_before}
use Rattle.node_tree.proofs.NamedLemmas.{length-named}
use Rattle.node_tree.proofs.OverlapLemmas.{next_told}
use Rattle.node_tree.proofs.SpanLemmas.{none-overlaps}
use Rattle.node_tree.proofs.overlapping.overlapping_pairs.Goals as goal

pub loop-i-preserved : goal.loop-i-preserved
loop-i-preserved c =
    let xs = named_entries c.args.entries.now in
    let i = c.loop-i.i in
    let firsts = c.in_ok-firsts.firsts.items in
    let rest = overlapping (take (i + 1) xs) (drop (i + 1) xs) in
    let within : i < length xs = omega (arith, length-named c.args.entries.now) in
    let first : c.index.result.now ≡ slice_index firsts i =
    get_or_read firsts i _ (omega (arith, c.in_ok-firsts.ensures.each)) c.index.ensures 0 in
    let pair : option_to_list c.pair_with-pair.result ≡ pair_before (slice_index firsts i) i =
    c.pair_with-pair.ensures ∙ ap (λ n. pair_before n i) first in
    rw c.in_ok-push_some.ensures
    (
    append_assoc c.loop-i.pairs.items (option_to_list c.pair_with-pair.result) rest
    ∙ ap (λ ps. c.loop-i.pairs.items ++ ps)
    (ap (λ ps. ps ++ rest) pair ∙ next_told xs firsts i c.in_ok-firsts.ensures within)
    ∙ c.loop-i.invariant
    )

pub returns-then-branch : goal.returns-then-branch
returns-then-branch c =
    c.new.ensures.items
    ∙ sym (none-overlaps c.args.entries.now c.requires.registers (c.in_ok-are_apart.ensures c.if-branch.true))

pub returns : goal.returns
returns c = grind (arith, common_steps)

pub index-requires : goal.index-requires
index-requires c = omega (arith, length-named c.args.entries.now, c.in_ok-firsts.ensures.each)

pub pair_with-pair-requires : goal.pair_with-pair-requires
pair_with-pair-requires c = omega arith
